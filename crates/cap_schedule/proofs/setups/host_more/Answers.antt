use Rattle.std.proofs.Common.{List, ℕ, Bor, map, sym, arith}
use Rattle.std.proofs.lemmas.List.{length-map}
use Rattle.cap_schedule.proofs.OtherLines.{no_host_more}
use Rattle.cap_schedule.proofs.setups.host_more.Goals as goal

pub returns-in_default : goal.returns-in_default
returns-in_default c =
    let f : Bor (List ℕ) → List ℕ = λ w. w.now in
    let n = length-map c.args.more.now f in
    let few = c.in_default.len_below in
    sym (no_host_more c.args.a.now c.args.id.now c.args.b.now c.args.limit.now (map f c.args.more.now) (λ e. omega (arith, n, e, few)))

pub returns-in-len5-up : goal.returns-in-len5-up
returns-in-len5-up c =
    let f : Bor (List ℕ) → List ℕ = λ w. w.now in
    let n = length-map c.args.more.now f in
    let many = c.in-len5-up.len_at_least in
    sym (no_host_more c.args.a.now c.args.id.now c.args.b.now c.args.limit.now (map f c.args.more.now) (λ e. omega (arith, n, e, many)))
