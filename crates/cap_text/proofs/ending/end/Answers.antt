use Rattle.std.proofs.Common.{◌≡◌, ◌∙◌, ◌++◌, ◌∷◌, [], sym, subst}
use Rattle.cap_text.specs.Machine.{prolog}
use Rattle.cap_text.specs.Bytes.{ended, piece_of}
use Rattle.cap_text.specs.SeenDocs.{doc_of, led_to}
use Rattle.cap_text.specs.SeenKnown.{known_of}
use Rattle.cap_text.specs.declared.open.Doc.{Doc as CodeDoc}
use Rattle.cap_text.proofs.Pieced.{ended_prolog}
use Rattle.cap_text.proofs.ending.end.Goals as goal

pub returns-in-Prolog-clause-read : goal.returns-in-Prolog-clause-read
returns-in-Prolog-clause-read c = λ fits.
    let text = c.args.front.now ++ 62 ∷ [] in
    let P : CodeDoc → Type 0 = λ d. led_to c.end_prolog.result (doc_of d) (known_of c.end_prolog.new.known) text ≡ ended (doc_of d) (known_of c.args.known.now) text (piece_of (doc_of d) text) in
    subst P (sym c.in-Prolog.is) (c.end_prolog.ensures.read fits prolog ∙ ended_prolog (known_of c.args.known.now) c.args.front.now)
