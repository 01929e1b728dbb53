use Rattle.std.proofs.Common.{List, ℕ, Bor, map, sym, arith}
use Rattle.std.proofs.lemmas.List.{length-map}
use Rattle.cap_schedule.proofs.OtherLines.{no_host}
use Rattle.cap_schedule.proofs.setups.host_line.Goals as goal

pub returns-in_default : goal.returns-in_default
returns-in_default c =
    let f : Bor (List ℕ) → List ℕ = λ w. w.now in
    let n = length-map c.args.words.now f in
    let few = c.in_default.len_below in
    sym (no_host (map f c.args.words.now) (omega (arith, n, few)))
