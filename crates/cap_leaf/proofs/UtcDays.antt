-- A day from 1970 on lies in a year that is no negative number.
use Rattle.std.proofs.Common.{◌≡◌, ℕ, ◌+◌, ◌*◌, ◌/◌, ◌%◌, ap, ◌∙◌, arith, ℤ, pos, negsuc, ◌+ℤ◌, ◌*ℤ◌, ◌≤ℤ◌}
use Rattle.jiff_core.specs.Calendar.{days_from_civil, IsCivilDate}
use Rattle.jiff_core.proofs.CalendarLemmas.{day_count-epoch, days_from_civil-day_count, day_count-lt_year}
use Rattle.jiff_core.proofs.SignedLemmas.{signed_arith}

pub not_before : (y : ℤ) (m d n : ℕ) → IsCivilDate y m d → days_from_civil y m d ≡ pos n → pos 0 ≤ℤ y
not_before (pos k) m d n h e = omega (arith, signed_arith)
not_before (negsuc k) m d n h e =
    let early = day_count-lt_year (negsuc k) m d (pos 1970) 1 1 h (omega arith) (omega (arith, signed_arith)) in
    absurd (omega (arith, signed_arith, early, day_count-epoch, days_from_civil-day_count (negsuc k) m d, e))

product : (q : ℕ) → pos q *ℤ pos 86400 ≡ pos (q * 86400)
product q = omega (arith, signed_arith)

-- a day and a clock make a moment
pub whole_moment : (moment year month day : ℕ) (y : ℤ) → pos year ≡ y → days_from_civil y month day ≡ pos (moment / 86400)
    → days_from_civil (pos year) month day *ℤ pos 86400 +ℤ pos (moment % 86400 / 3600 * 3600 + moment % 86400 / 60 % 60 * 60 + moment % 86400 % 60) ≡ pos moment
whole_moment moment year month day y same days =
    let clock : moment % 86400 / 3600 * 3600 + moment % 86400 / 60 % 60 * 60 + moment % 86400 % 60 ≡ moment % 86400 = omega arith in
    let whole : moment / 86400 * 86400 + moment % 86400 ≡ moment = omega arith in
    ap (λ n. days_from_civil n month day *ℤ pos 86400 +ℤ pos (moment % 86400 / 3600 * 3600 + moment % 86400 / 60 % 60 * 60 + moment % 86400 % 60)) same
    ∙ (ap (λ n. n *ℤ pos 86400 +ℤ pos (moment % 86400 / 3600 * 3600 + moment % 86400 / 60 % 60 * 60 + moment % 86400 % 60)) days
    ∙ (ap (λ n. pos (moment / 86400) *ℤ pos 86400 +ℤ pos n) clock
    ∙ (ap (λ n. n +ℤ pos (moment % 86400)) (product (moment / 86400)) ∙ ap pos whole)))
