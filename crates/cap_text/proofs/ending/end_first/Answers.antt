use Rattle.std.proofs.Common.{◌∙◌, [], ap, sym}
use Rattle.cap_text.specs.Machine.{first, prolog}
use Rattle.cap_text.specs.Bytes.{standing}
use Rattle.cap_text.specs.SeenKnown.{known_of}
use Rattle.cap_text.proofs.Pieced.{ended_declared, ended_undeclared}
use Rattle.cap_text.proofs.ending.end_first.Goals as goal

pub returns-then-is_declaration-clause-read : goal.returns-then-is_declaration-clause-read
returns-then-is_declaration-clause-read c = λ fits.
    ap (λ n. standing prolog n []) (c.pass.ensures.known fits)
    ∙ ended_declared (known_of c.args.known.now) c.args.front.now (sym c.is_declaration.ensures ∙ c.if-is_declaration.true)

pub returns-clause-read : goal.returns-clause-read
returns-clause-read c = λ fits.
    c.end_prolog.ensures.read fits first
    ∙ ended_undeclared (known_of c.args.known.now) c.args.front.now (sym c.is_declaration.ensures ∙ c.if-is_declaration.false)
