-- What makes a token live, what is pending, and what may be begun and closed.
use Rattle.std.specs.Prelude.{◌≡◌, ◌≤◌, ◌<◌, ℕ, ◌+◌, true, false, List, count_by}
use Rattle.cap_entries.specs.declared.terminal.TermEntry.{TermEntry}
use Rattle.cap_entries.specs.Entry.{is_any_begin, is_any_closed, is_pending, amount_of, account_of}

-- the journal has Begin with the token's values and no end of it
pub record IsLive (entries : List TermEntry) (n amount : ℕ) (account : List ℕ) : Type 0 where
  pub pending : is_pending entries n ≡ true
  pub amount_is : amount ≡ amount_of entries n
  pub account_is : account ≡ account_of entries n

-- the sale that begins next, and the period that is open
abbrev pub next_sale : List TermEntry → ℕ
next_sale entries = count_by is_any_begin entries + 1

abbrev pub open_period : List TermEntry → ℕ
open_period entries = count_by is_any_closed entries + 1

-- no sale from n on is pending
abbrev pub PendsNoneFrom : List TermEntry → ℕ → Type 0
PendsNoneFrom entries n = (k : ℕ) → n ≤ k → is_pending entries k ≡ false

-- k is the least pending sale not below n
pub record IsLeastPending (entries : List TermEntry) (n k : ℕ) : Type 0 where
  pub from : n ≤ k
  pub pending : is_pending entries k ≡ true
  pub least : (q : ℕ) → n ≤ q → q < k → is_pending entries q ≡ false
