use Rattle.std.proofs.Common.{◌≡◌, arith, FitsSigned, w16, pos, ◌≤ℤ◌}
use Rattle.std.proofs.lemmas.Int.{to_z-of_z}
use Rattle.jiff_core.proofs.SignedLemmas.{signed_arith}
use Rattle.cap_leaf.proofs.UtcDays.{not_before, whole_moment}
use Rattle.cap_leaf.proofs.date.DateTime.utc.Goals as goal

pub year_of-requires : goal.year_of-requires
year_of-requires c =
    let day = c.day_at-day.result in
    let later : pos 0 ≤ℤ day.year = not_before day.year day.month day.day _ (day.year_in, day.month_in, day.day_in) c.day_at-day.ensures in
    let range = day.year_in in
    let fits : FitsSigned w16 day.year = omega (arith, signed_arith, range.0, range.1) in
    simp to_z-of_z later

pub returns-clause-moment : goal.returns-clause-moment
returns-clause-moment c =
    let day = c.day_at-day.result in
    let range = day.year_in in
    let fits : FitsSigned w16 day.year = omega (arith, signed_arith, range.0, range.1) in
    let year : pos c.year_of.result ≡ day.year = simp to_z-of_z at c.year_of.ensures in
    whole_moment c.args.moment c.year_of.result day.month day.day day.year year c.day_at-day.ensures
