-- A sale that has just begun is live.
use Rattle.std.proofs.Common.{◌≡◌, ℕ, ◌+◌, ◌-◌, ◌≤◌, true, not, List, [], ◌∷◌, ◌++◌, length, ◌∙◌, ap, subst, arith, le-leb, length-append, slice_index_or}
use Rattle.std.specs.Prelude.{count_by, nat_le}
use Rattle.std.specs.List.{list_any}
use Rattle.std.proofs.lemmas.Bool.{and_from}
use Rattle.std.proofs.Math.Seq.{get_or-append_seam}
use Rattle.cap_entries.specs.declared.terminal.TermEntry.{TermEntry}
use Rattle.cap_entries.specs.declared.terminal.TermEntry.TheVariants.{Begin}
use Rattle.cap_entries.specs.Entry.{is_begin, is_any_begin, ends, max_of}
use Rattle.cap_entries.specs.Allowed.{is_legal}
use Rattle.cap_terminal.specs.declared.sale_row.Stage.TheVariants.{Pending}
use Rattle.cap_terminal.specs.declared.sale_row.SaleRow.{SaleRow}
use Rattle.cap_terminal.specs.Index.{TerminalIndex, blank_row, row_of, index_of, index_after}
use Rattle.cap_terminal.specs.Live.{IsLive}
use Rattle.cap_terminal.proofs.Growth.{begin_allowed}
use Rattle.cap_terminal.proofs.Ties.{RowTies, Ties, ties_of, ties_after}

module _ (entries : List TermEntry) (n amount : ℕ) (account : List ℕ) (legal : is_legal entries ≡ true) (next : n ≡ count_by is_any_begin entries + 1) (within : n ≤ max_of entries) where
  abbrev after : List TermEntry
  after = entries ++ Begin n amount account ∷ []

  abbrev x : TerminalIndex
  x = index_of entries

  abbrev new : SaleRow
  new = record { amount = amount; account = account; stage = Pending }

  before : Ties entries x
  before = ties_of entries legal

  now : Ties after (index_after x (Begin n amount account))
  now = ties_after entries (Begin n amount account) x before (begin_allowed entries n amount account next within)

  longer : length (x.sales ++ new ∷ []) ≡ length x.sales + 1
  longer = length-append x.sales (new ∷ [])

  at : row_of (x.sales ++ new ∷ []) n ≡ new
  at = (let place : n - 1 ≡ length x.sales = omega (arith, next, before.count) in ap (λ (i : ℕ). slice_index_or (x.sales ++ new ∷ []) i blank_row) place) ∙ get_or-append_seam x.sales new [] blank_row

  row : RowTies after n new
  row = let low : 1 ≤ n = omega (arith, next) in subst (λ (r : SaleRow). RowTies after n r) at (now.row n low)

  begun : list_any (is_begin n) after ≡ true
  begun = now.begun n ∙ and_from (nat_le 1 n) (nat_le n (length (x.sales ++ new ∷ []))) (le-leb 1 n (omega (arith, next))) (le-leb n (length (x.sales ++ new ∷ [])) (omega (arith, next, before.count, longer)))

  pub begun_live : IsLive after n amount account
  begun_live = record {
    pending = and_from (list_any (is_begin n) after) (not (list_any (ends n) after)) begun (ap not row.ended);
    amount_is = row.amount_is;
    account_is = row.account_is;
  }
