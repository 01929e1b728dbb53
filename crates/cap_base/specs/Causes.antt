-- When a fault may be answered: where the count of faults of the object that was handed in rose in that call.
use Rattle.std.specs.Prelude.{ℕ, ◌+◌, ◌-◌, ◌^◌, ◌≤◌, min, Result, OnErr, IsErrOf}
use Rattle.cap_base.specs.declared.sink.PutError.{PutError}
use Rattle.cap_base.specs.declared.sink.PutError.TheVariants.{Failed}

-- the count rose, or stands at the last u64
abbrev pub Rose : ℕ → ℕ → Type 0
Rose before now = min (before + 1) (2 ^ 64 - 1) ≤ now

-- the count never falls, and rises where the call failed
pub record HasCause {T E : Type 0} (before now : ℕ) (result : Result T E) : Type 0 where
  pub later : before ≤ now
  pub failed : OnErr result (Rose before now)

-- the same for a sink, whose want of memory has no cause
pub record HasPutCause {T : Type 0} (before now : ℕ) (result : Result T PutError) : Type 0 where
  pub later : before ≤ now
  pub failed : IsErrOf result Failed → Rose before now
