use Rattle.std.proofs.Common.{List, ℕ, Bor, map, Option, sym, ◌∙◌, subst}
use Rattle.std.specs.Prelude.{◌≡◌, IfOk}
use Rattle.cap_schedule.specs.declared.schedule.Draft.{Draft}
use Rattle.cap_schedule.proofs.Reading.{hosted_acts, acting_acts}
use Rattle.cap_schedule.proofs.reader.read_words.Goals as goal

pub returns-in-Some : goal.returns-in-Some
returns-in-Some c = λ reads is.
    let f : Bor (List ℕ) → List ℕ = λ w. w.now in
    let P : Option Draft → Type 0 = λ d. IfOk c.acting.result (λ o. o ≡ d) in
    let e = hosted_acts reads c.args.draft c.in-Hosted.host c.in-Hosted.terminals c.args.number (map f c.args.words.now) c.in-Some.schedule c.is_terminal_line.result
    c.in-Hosted.is c.is_terminal_line.ensures c.if-is_terminal_line.false (sym c.in_ok-schedule-in-Hosted.ensures ∙ c.in-Some.is) in
    subst P (sym e) (c.acting.ensures reads is)

pub returns-in-Acting : goal.returns-in-Acting
returns-in-Acting c = λ reads is.
    let f : Bor (List ℕ) → List ℕ = λ w. w.now in
    let P : Option Draft → Type 0 = λ d. IfOk c.acting-in-Acting.result (λ o. o ≡ d) in
    let e = acting_acts reads c.args.draft c.args.number (map f c.args.words.now) c.in-Acting.schedule c.in-Acting.is in
    subst P (sym e) (c.acting-in-Acting.ensures reads is)
