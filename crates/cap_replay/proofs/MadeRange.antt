-- A schedule that is made by rule is one that can be run: its set-ups match, its lines are in range, and it has no noise.
use Rattle.std.proofs.Common.{◌≡◌, ℕ, zero, suc, ◌+◌, ◌≤◌, ◌%◌, Bool, true, false, List, [], ◌∷◌, ◌++◌, refl, arith, le-leb}
use Rattle.std.specs.Prelude.{nat_le, ◌&&◌, if◌then◌else◌}
use Rattle.std.specs.List.{AllByRecursion}
use Rattle.std.proofs.lemmas.Bool.{and_from}
use Rattle.cap_msgs.specs.Received.{Received}
use Rattle.cap_schedule.specs.declared.schedule.Order.TheVariants as T
use Rattle.cap_schedule.specs.declared.schedule.HostOrder.TheVariants as H
use Rattle.cap_schedule.specs.declared.schedule.Action.{Action}
use Rattle.cap_schedule.specs.declared.schedule.Action.TheVariants.{AtTerminal, AtHost}
use Rattle.cap_schedule.specs.declared.schedule.Line.{Line}
use Rattle.cap_entries.specs.SetUps.{SetUpsMatch}
use Rattle.cap_schedule.specs.Nobodys.{IsNoise, NoiseIsNobodys}
use Rattle.cap_schedule.specs.Ranges.{ActionInRange}
use Rattle.cap_plays.specs.Laws.{InRange}
use Rattle.cap_replay.specs.Generator.{is_cancelled, is_repeated, terminals_of, made_host, ups, exchange, cancellation, sale_at, next_sale, sales_actions, closing, made_actions, numbered, made_schedule, sales_before, answers_before, amount_of_sale, account_of_sale}

-- it holds of each action that is made
record Holds (P : Action → Type 0) : Type 0 where
  sale : (place amount : ℕ) (account : List ℕ) → P (AtTerminal place (T.Sale amount account))
  cancel : (place n : ℕ) → P (AtTerminal place (T.Cancel n))
  close : (place : ℕ) → P (AtTerminal place T.Close)
  batch : (place : ℕ) → P (AtTerminal place (T.Batch 100))
  down : (place j : ℕ) → P (AtTerminal place (T.Down j))
  up : (place k : ℕ) → P (AtHost (H.Up place k))

all_append : (P : Action → Type 0) (xs ys : List Action) → AllByRecursion P xs → AllByRecursion P ys → AllByRecursion P (xs ++ ys)
all_append P [] ys xs_all ys_all = ys_all
all_append P (x ∷ xs) ys xs_all ys_all = (xs_all.0, all_append P xs ys xs_all.1 ys_all)

all_numbered : (P : Action → Type 0) (k : ℕ) (actions : List Action) → AllByRecursion P actions → AllByRecursion (λ (line : Line). P line.action) (numbered k actions)
all_numbered P k [] all = tt
all_numbered P k (action ∷ actions) all = (all.0, all_numbered P (suc k) actions all.1)

one_or_none : (P : Action → Type 0) (b : Bool) (action : Action) → P action → AllByRecursion P (if b then action ∷ [] else [])
one_or_none P true action is = (is, tt)
one_or_none P false action is = tt

ups_hold : (P : Action → Type 0) → Holds P → (place message : ℕ) (again : Bool) → AllByRecursion P (ups place message again)
ups_hold P holds place message again = (holds.up place message, one_or_none P again (AtHost (H.Up place message)) (holds.up place message))

exchange_holds : (P : Action → Type 0) → Holds P → (place message answer : ℕ) (again : Bool) → AllByRecursion P (exchange place message answer again)
exchange_holds P holds place message answer again =
    (holds.batch place, all_append P (ups place message again) (AtTerminal place (T.Down answer) ∷ []) (ups_hold P holds place message again) (holds.down place answer, tt))

sale_holds : (P : Action → Type 0) → Holds P → (i place number answer : ℕ) → AllByRecursion P (sale_at i place number answer)
sale_holds P holds i place number answer = (
  holds.sale place (amount_of_sale i) (account_of_sale i),
  all_append P (cancellation i place number) (exchange place number answer (is_repeated i))
      (one_or_none P (is_cancelled i) (AtTerminal place (T.Cancel number)) (holds.cancel place number)) (exchange_holds P holds place number answer (is_repeated i)),
)

sales_hold : (P : Action → Type 0) → Holds P → (n : ℕ) → AllByRecursion P (sales_actions n)
sales_hold P holds zero = tt
sales_hold P holds (suc n) =
    all_append P (sales_actions n) (next_sale n) (sales_hold P holds n) (sale_holds P holds (n + 1) (n % 4) (sales_before (n % 4) n + 1) (answers_before (n % 4) n + 1))

closing_holds : (P : Action → Type 0) → Holds P → (n place : ℕ) → AllByRecursion P (closing n place)
closing_holds P holds n place = (holds.close place, exchange_holds P holds place (sales_before place n + 1) (answers_before place n + 1) false)

made_holds : (P : Action → Type 0) → Holds P → (n : ℕ) → AllByRecursion P (made_actions n)
made_holds P holds n =
    all_append P (sales_actions n) (closing n 0 ++ (closing n 1 ++ (closing n 2 ++ closing n 3))) (sales_hold P holds n)
    (all_append P (closing n 0) (closing n 1 ++ (closing n 2 ++ closing n 3)) (closing_holds P holds n 0)
    (all_append P (closing n 1) (closing n 2 ++ closing n 3) (closing_holds P holds n 1)
    (all_append P (closing n 2) (closing n 3) (closing_holds P holds n 2) (closing_holds P holds n 3))))

made_lines : (P : Action → Type 0) → Holds P → (n : ℕ) → AllByRecursion (λ (line : Line). P line.action) (numbered 6 (made_actions n))
made_lines P holds n = all_numbered P 6 (made_actions n) (made_holds P holds n)

-- the rule of each terminal
rule_of : (n : ℕ) → 1 ≤ n → n ≤ 10000 → (nat_le 1 n && nat_le n 250000) ≡ true
rule_of n low high = and_from (nat_le 1 n) (nat_le n 250000) (le-leb 1 n low) (le-leb n 250000 (omega (arith, high)))

matches : (n : ℕ) → 1 ≤ n → n ≤ 10000 → SetUpsMatch made_host (terminals_of n)
matches n low high =
    let rule : ((nat_le 1 n && nat_le n 250000) && true) ≡ true = and_from (nat_le 1 n && nat_le n 250000) true (rule_of n low high) refl in
    record {
      names = refl;
      hosts = (refl, (refl, (refl, (refl, tt))));
      rules = (rule, (rule, (rule, (rule, tt))));
      host_rule = refl;
    }

ranges : Holds ActionInRange
ranges = record {
  sale = λ place amount account. tt;
  cancel = λ place n. tt;
  close = λ place. tt;
  batch = λ place. (omega arith, omega arith);
  down = λ place j. tt;
  up = λ place k. tt;
}

pub made_in_range : (n : ℕ) → 1 ≤ n → n ≤ 10000 → InRange (made_schedule n)
made_in_range n low high = record { set_ups = matches n low high; lines = made_lines ActionInRange ranges n }

quiet : (reads : List ℕ → Received) (n : ℕ) → Holds (IsNoise reads (made_schedule n))
quiet reads n = record {
  sale = λ place amount account. tt;
  cancel = λ place n'. tt;
  close = λ place. tt;
  batch = λ place. tt;
  down = λ place j. tt;
  up = λ place k. tt;
}

pub made_has_no_noise : (reads : List ℕ → Received) (n : ℕ) → NoiseIsNobodys reads (made_schedule n)
made_has_no_noise reads n = made_lines (IsNoise reads (made_schedule n)) (quiet reads n) n
