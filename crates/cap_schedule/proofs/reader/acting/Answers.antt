use Rattle.std.proofs.Common.{List, ℕ, Bor, map, Option, sym, subst}
use Rattle.std.specs.Prelude.{◌≡◌, IfOk}
use Rattle.cap_schedule.specs.declared.schedule.Line.{Line}
use Rattle.cap_schedule.specs.Language.{with_line}
use Rattle.cap_schedule.proofs.Reading.{same_line}
use Rattle.cap_schedule.proofs.reader.acting.Goals as goal

pub returns-in-Some : goal.returns-in-Some
returns-in-Some c = λ reads is.
    let s = c.args.schedule in
    let f : Bor (List ℕ) → List ℕ = λ w. w.now in
    let P : Option Line → Type 0 = λ l. IfOk c.with_line.result (λ o. o ≡ with_line reads s l) in
    let e = same_line s.host.host c.host-host.result s.terminals c.as_slice.result.now c.args.number (map f c.args.words.now) c.in_ok-line.field-0 c.in-Some.line
    c.in_ok-line.ensures c.host-host.ensures.value c.as_slice.ensures c.in-Some.is in
    subst P (sym e) (c.with_line.ensures reads is)
