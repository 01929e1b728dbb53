-- What the calls of a terminal add to its journal.
use Rattle.std.specs.Prelude.{◌≡◌, ℕ, ◌+◌, ◌<◌, ◌≤◌, true, List, [], ◌∷◌, Result, Ok, count_by, codes}
use Rattle.cap_base.specs.declared.codes.Response.TheVariants.{Appr}
use Rattle.cap_entries.specs.declared.terminal.TermEntry.{TermEntry}
use Rattle.cap_entries.specs.declared.terminal.TermEntry.TheVariants.{Begin, Declined, Completed, Voided, Cancelled, Closed}
use Rattle.cap_entries.specs.Entry.{is_any_begin, is_any_closed, is_pending, amount_of, max_of}
use Rattle.cap_entries.specs.Allowed.{allowed}
use Rattle.cap_entries.specs.Floor.{floor}
use Rattle.cap_sale.specs.declared.response.AuthResponse.{AuthResponse}
use Rattle.cap_terminal_answers.specs.declared.handled.Handled.{Handled}
use Rattle.cap_terminal_answers.specs.declared.handled.Handled.TheVariants.{Authorisation}
use Rattle.cap_terminal_answers.specs.declared.handled.TermFault.{TermFault}

-- a sale is begun, where there are fewer than the set-up allows
abbrev pub Begins_sale : List TermEntry → (amount : ℕ) → (account : List ℕ) → List TermEntry → Type 0
Begins_sale entries amount account added =
    (count_by is_any_begin entries < max_of entries)
    × (added ≡ Begin (count_by is_any_begin entries + 1) amount account ∷ [])

-- the code of a sale that the terminal completes by itself
abbrev pub offline_code : List ℕ
offline_code = codes "OFFLIN"

-- a pending sale within the floor is completed
abbrev pub Completes_offline : List TermEntry → (n : ℕ) → List TermEntry → Type 0
Completes_offline entries n added =
    (is_pending entries n ≡ true) × (amount_of entries n ≤ floor entries)
    × (added ≡ Completed n offline_code ∷ [])

-- a pending sale is given up
abbrev pub Gives_up_sale : List TermEntry → (n : ℕ) → List TermEntry → Type 0
Gives_up_sale entries n added = (is_pending entries n ≡ true) × (added ≡ Voided n ∷ [])

-- a completed sale is cancelled
abbrev pub Cancels_sale : List TermEntry → (n : ℕ) → List TermEntry → Type 0
Cancels_sale entries n added = (allowed entries (Cancelled n) ≡ true) × (added ≡ Cancelled n ∷ [])

-- the next period is closed
abbrev pub Closes_period : List TermEntry → List TermEntry → Type 0
Closes_period entries added =
    (allowed entries (Closed (count_by is_any_closed entries + 1)) ≡ true)
    × (added ≡ Closed (count_by is_any_closed entries + 1) ∷ [])

-- what becomes of a pending sale on the host's decision
pub data Decision : Type 0 where
  Leave : Decision
  Complete : Decision
  Give_up : Decision
  Decline : Decision

-- what a decision adds when this is the answer: an approved sale is completed or given up, one that isn't is declined
abbrev pub Decides : List TermEntry → Result Handled TermFault → Decision → List TermEntry → Type 0
Decides entries answer Leave added = added ≡ []
Decides entries answer Complete added =
    (given : AuthResponse) × (answer ≡ Ok (Authorisation given)) × (given.response ≡ Appr)
    × (is_pending entries given.n ≡ true) × (added ≡ Completed given.n given.code ∷ [])
Decides entries answer Give_up added =
    (given : AuthResponse) × (answer ≡ Ok (Authorisation given)) × (given.response ≡ Appr)
    × (is_pending entries given.n ≡ true) × (added ≡ Voided given.n ∷ [])
Decides entries answer Decline added =
    (given : AuthResponse) × (answer ≡ Ok (Authorisation given)) × (given.response ≡ Appr → ⊥)
    × (is_pending entries given.n ≡ true) × (added ≡ Declined given.n ∷ [])
