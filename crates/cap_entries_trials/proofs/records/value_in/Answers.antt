use Rattle.std.proofs.Common.{◌≡◌, ℕ, List, Option, Some, None, Result, Ok, Err, IfOk, IfSome, sym}
use Rattle.std.specs.Prelude.{IsTrue}
use Rattle.cap_journal.specs.File.{Reading}
use Rattle.cap_entries_trials.proofs.records.value_in.Goals as goal

-- what reads has a record
module _ {E : Type 0} (reading : Reading E) (Fits : E → Type 0) (reads_only : (value : E) (size : ℕ) (bytes : List ℕ) → reading bytes ≡ Some (value, size) → Fits value) where
  by_found : (bytes : List ℕ) (found : Option (E × ℕ)) → found ≡ reading bytes → IfSome found (λ value. Fits value.0)
  by_found bytes None is = tt
  by_found bytes (Some found) is = reads_only found.0 found.1 bytes (sym is)

  by_result : {F : Type 0} (bytes : List ℕ) (result : Result (Option (E × ℕ)) F) → IfOk result (λ found. found ≡ reading bytes) → IfOk result (λ found. IfSome found (λ value. Fits value.0))
  by_result bytes (Ok found) is = by_found bytes found is
  by_result bytes (Err e) is = tt

pub returns : goal.returns
returns g c = by_result g.E.Record.reading (λ value. IsTrue (g.E.Record.fits value)) (λ value size bytes is. (g.met.E.Record.reads_only value size bytes is).0) c.args.bytes.now c.read.result c.read.ensures
