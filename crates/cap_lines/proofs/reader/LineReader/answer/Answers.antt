use Rattle.std.proofs.Common.{◌<◌, ◌+◌, refl, ap, sym, subst, arith}
use Rattle.cap_lines.specs.Lines.{most_bytes, UpToLimit}
use Rattle.cap_lines.specs.Reading.{HasRead}
use Rattle.cap_lines.specs.declared.reader.LineReader.{LineReader}
use Rattle.cap_lines.proofs.Turning.{gives_line, stays, past_lines, past_bytes, none_in_nil}
use Rattle.cap_lines.proofs.reader.LineReader.answer.Goals.{then-self-lt-MOST_LINES+else-split_line, else-self-lt-MOST_LINES+else-not-is_empty}
use Rattle.cap_lines.proofs.reader.LineReader.answer.Goals as goal

pub returns-then-split_line-clause-answers : goal.returns-then-split_line-clause-answers
returns-then-split_line-clause-answers c = λ left bytes given h.
    let r : LineReader = c.args.self.now in
    let s : LineReader = record { held = c.split_line.new.self; taken = r.taken; given = r.given + 1; is_ended = r.is_ended } in
    gives_line r s left bytes given h c.if-self.false c.if-self.false refl refl c.if-self-lt-MOST_LINES.true (c.split_line.ensures.some c.if-split_line.true)

pub returns-then-not-is_empty-clause-answers : goal.returns-then-not-is_empty-clause-answers
returns-then-not-is_empty-clause-answers c = λ left bytes given h.
    (h, past_lines c.args.self.now c.args.self.now left bytes given h c.if-self.false (omega (arith, c.if-self-lt-MOST_LINES.false)) (c.is_empty.ensures.some c.if-not-is_empty.true))

pub returns-then-self-gt-MOST_BYTES-clause-answers : goal.returns-then-self-gt-MOST_BYTES-clause-answers
returns-then-self-gt-MOST_BYTES-clause-answers c = λ left bytes given h.
    let r : LineReader = c.args.self.now in
    let Wanted : LineReader → Type 0 = λ s. HasRead s left bytes given × (UpToLimit bytes given) in
    elim c.if-self-lt-MOST_LINES.branch [
      | then-self-lt-MOST_LINES+else-split_line w ↦
          let none = w.split_line.ensures.none w.if-split_line.false in
          let s : LineReader = record { held = w.split_line.new.self; taken = r.taken; given = r.given; is_ended = r.is_ended } in
          let over : most_bytes < r.taken = omega (arith, c.if-self-gt-MOST_BYTES.true, ap (λ (t : LineReader). t.taken) w.self-is) in
          let kept : HasRead s left bytes given = stays r s left bytes given h c.if-self.false refl refl refl none.1 in
          subst Wanted (sym w.self-is) (kept, past_bytes s s left bytes given kept c.if-self.false over none.0)
      | else-self-lt-MOST_LINES+else-not-is_empty w ↦
          let over : most_bytes < r.taken = omega (arith, c.if-self-gt-MOST_BYTES.true, ap (λ (t : LineReader). t.taken) w.self-is) in
          subst Wanted (sym w.self-is) (h, past_bytes r r left bytes given h c.if-self.false over (none_in_nil r (w.is_empty.ensures.empty w.if-not-is_empty.false)))
    ]
