use Rattle.std.proofs.Common.{◌+◌, true, refl}
use Rattle.cap_lines.specs.declared.reader.LineReader.{LineReader}
use Rattle.cap_lines.proofs.Turning.{at_end, at_last}
use Rattle.cap_lines.proofs.reader.LineReader.finish.Goals as goal

pub returns-then-is_empty : goal.returns-then-is_empty
returns-then-is_empty c = λ left bytes given h end.
    let r : LineReader = c.args.self.now in
    let s : LineReader = record { held = r.held; taken = r.taken; given = r.given; is_ended = true } in
    at_end r s left bytes given h c.requires.goes_on refl refl refl c.requires (c.is_empty.ensures.empty c.if-is_empty.true) end

pub returns : goal.returns
returns c = λ left bytes given h end.
    let r : LineReader = c.args.self.now in
    let s : LineReader = record { held = c.split_rest.new.self; taken = r.taken; given = r.given + 1; is_ended = true } in
    at_last r s left bytes given h c.requires.goes_on refl refl refl c.requires (c.is_empty.ensures.some c.if-is_empty.false) c.split_rest.ensures.line end
