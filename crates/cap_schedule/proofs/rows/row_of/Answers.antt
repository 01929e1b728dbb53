use Rattle.std.proofs.Common.{List, ℕ, Bor, map, sym, arith}
use Rattle.std.proofs.lemmas.List.{length-map}
use Rattle.cap_schedule.proofs.OtherLines.{no_row}
use Rattle.cap_schedule.proofs.rows.row_of.Goals as goal

pub returns-in_default : goal.returns-in_default
returns-in_default c =
    let f : Bor (List ℕ) → List ℕ = λ w. w.now in
    let n = length-map c.args.words.now f in
    let few = c.in_default.len_below in
    sym (no_row (map f c.args.words.now) (λ e. omega (arith, n, e, few)))
