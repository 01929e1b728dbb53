use Rattle.std.proofs.Common.{List, ℕ, Bor, map, sym, arith}
use Rattle.std.proofs.lemmas.List.{length-map}
use Rattle.cap_schedule.proofs.OtherLines.{no_action}
use Rattle.cap_schedule.proofs.actions.action_of.Goals as goal

pub returns-in_default : goal.returns-in_default
returns-in_default c =
    let f : Bor (List ℕ) → List ℕ = λ w. w.now in
    let n = length-map c.args.words.now f in
    let few = c.in_default.len_below in
    sym (no_action c.args.host.now c.args.terminals.now (map f c.args.words.now) (λ e. omega (arith, n, e, few)) (λ e. omega (arith, n, e, few)) (λ e. omega (arith, n, e, few)))

pub returns-in-len5-up : goal.returns-in-len5-up
returns-in-len5-up c =
    let f : Bor (List ℕ) → List ℕ = λ w. w.now in
    let n = length-map c.args.words.now f in
    let many = c.in-len5-up.len_at_least in
    sym (no_action c.args.host.now c.args.terminals.now (map f c.args.words.now) (λ e. omega (arith, n, e, many)) (λ e. omega (arith, n, e, many)) (λ e. omega (arith, n, e, many)))
