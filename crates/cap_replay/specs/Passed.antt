-- A line at an end that is off is passed over, and leaves all as it was.
use Rattle.std.proofs.Common.{◌≡◌, ℕ, false, List, refl, sym, ap, subst, inl}
use Rattle.std.proofs.lemmas.Bool.{cond-false}
use Rattle.cap_leaf.specs.Date.{DateParts}
use Rattle.cap_msgs.specs.Received.{Received}
use Rattle.cap_msgs.specs.Moment.{IsMoment}
use Rattle.cap_schedule.specs.declared.outcome.Outcome.TheVariants.{IsOff}
use Rattle.cap_schedule.specs.declared.schedule.End.{End}
use Rattle.cap_schedule.specs.declared.schedule.End.TheVariants.{Host, Terminal}
use Rattle.cap_schedule.specs.declared.schedule.Line.{Line}
use Rattle.cap_plays.specs.Turns.{Scene}
use Rattle.cap_plays.specs.Plays.{Doubt, Doubts, doubt_at, with_doubt, moment_of, is_possible, acting, fate, passed, Fate}
use Rattle.cap_plays.specs.Ends.{doubts_as_they_are}
use Rattle.cap_plays.specs.Session.{IsFate, Acted}

same_doubts : (doubts : Doubts) (end : End) → with_doubt doubts end (doubt_at doubts end) ≡ doubts
same_doubts doubts Host = refl
same_doubts doubts (Terminal place) =
    ap (λ (l : List Doubt). let d : Doubts = record { host = doubts.host; terminals = l } in d) (doubts_as_they_are doubts.terminals place)

pub passed_over : (reads : List ℕ → Received) (corresponds : Scene → Doubts → Type 0) (w : Scene) (doubts : Doubts) (line : Line) (created : DateParts)
    → is_possible w line.action ≡ false → IsMoment (moment_of line.number) created → corresponds w doubts → Acted reads corresponds w doubts line IsOff
passed_over reads corresponds w doubts line created off at stands =
    let end = acting line.action in
    let old = doubt_at doubts end in
    let is : fate reads w old old.least created line ≡ passed w old = cond-false (is_possible w line.action) _ _ off in
    let same : corresponds w (with_doubt doubts end old) = subst (λ (d : Doubts). corresponds w d) (sym (same_doubts doubts end)) stands in
    (created, old.least, at, inl refl, subst (λ (f : Fate). IsFate corresponds doubts end IsOff f) (sym is) (same, refl))
