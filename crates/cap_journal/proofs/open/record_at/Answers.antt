use Rattle.std.proofs.Common.{◌≡◌, ◌≤◌, ◌+◌, ◌-◌, ℕ, List, length, take, drop, Option, Some, None, Result, Ok, Err, IfOk, IfSome, sym, ap, subst, arith, length-take, length-drop}
use Rattle.std.proofs.lemmas.List.{take_all}
use Rattle.cap_journal.specs.File.{Reading}
use Rattle.cap_journal.proofs.open.record_at.Goals as goal

-- what reads has 1 byte at least, and no more than there are
module _ {E : Type 0} (reading : Reading E) (sized : (value : E) (size : ℕ) (bytes : List ℕ) → reading bytes ≡ Some (value, size) → (1 ≤ size) × (size ≤ length bytes)) where
  by_found : (bytes : List ℕ) (at : ℕ) (found : Option (E × ℕ)) → at ≤ length bytes → found ≡ reading (drop at bytes) → IfSome found (λ entry. (1 ≤ entry.1) × (at + entry.1 ≤ length bytes))
  by_found bytes at None le is = tt
  by_found bytes at (Some found) le is = let within = sized found.0 found.1 (drop at bytes) (sym is) in (within.0, omega (arith, within.1, length-drop at bytes))

  by_result : {F : Type 0} (bytes : List ℕ) (at : ℕ) (result : Result (Option (E × ℕ)) F) → at ≤ length bytes → IfOk result (λ found. found ≡ reading (drop at bytes)) → IfOk result (λ found. IfSome found (λ entry. (1 ≤ entry.1) × (at + entry.1 ≤ length bytes)))
  by_result bytes at (Ok found) le is = by_found bytes at found le is
  by_result bytes at (Err e) le is = tt

sized_by : {E : Type 0} (reading : Reading E) (value : E) (size n : ℕ) (bytes record_bytes : List ℕ) → size ≡ length record_bytes → take size bytes ≡ record_bytes → 1 ≤ length record_bytes → (1 ≤ size) × (size ≤ length bytes)
sized_by reading value size n bytes record_bytes is taken low = (omega (arith, is, low), omega (arith, is, ap length taken, length-take size bytes))

pub returns-clause-size : goal.returns-clause-size
returns-clause-size g c =
    let bytes : List ℕ = c.args.bytes.now in
    let at : ℕ = c.args.at in
    let sized : (value : g.row.E.Denot) (size : ℕ) (l : List ℕ) → g.E.Record.reading l ≡ Some (value, size) → (1 ≤ size) × (size ≤ length l) = λ value size l is.
    (let law = g.met.E.Record.reads_only value size l is in sized_by g.E.Record.reading value size 0 l (g.E.Record.bytes_of value) law.1 law.2 (g.met.E.Record.size_low value law.0)) in
    by_result g.E.Record.reading sized bytes at c.read.result (omega (arith, c.requires)) (subst (λ (l : List ℕ). IfOk c.read.result (λ found. found ≡ g.E.Record.reading l)) (take_all (length bytes - at) (drop at bytes) (omega (arith, length-drop at bytes))) c.read.ensures)
