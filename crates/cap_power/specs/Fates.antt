-- What an opening makes of an end, over its entries alone, so that it holds of terminals and of the host.
use Rattle.std.specs.Prelude.{◌≡◌, ℕ, Bool, true, false, List, [], ◌++◌, take, nat_le, ◌==◌, if◌then◌else◌, Option, Some, None}
use Rattle.std.proofs.Common.{refl}
use Rattle.cap_entries.specs.declared.terminal.TermEntry.{TermEntry}
use Rattle.cap_entries.specs.declared.host.HostEntry.{HostEntry}
use Rattle.cap_disk.specs.declared.memory.MemoryDisk.{MemoryDisk}
use Rattle.cap_schedule.specs.declared.outcome.Outcome.{Outcome}
use Rattle.cap_schedule.specs.declared.outcome.Outcome.TheVariants.{WasCut, DiskFailed, Restarted}
use Rattle.cap_schedule.specs.declared.schedule.Prefix.{Prefix}
use Rattle.cap_schedule.specs.declared.schedule.Prefix.TheVariants.{Cut, Fail, CutAfter}
use Rattle.cap_world.specs.World.{TerminalState, HostState}
use Rattle.cap_plays.specs.Plays.{Doubt, no_doubt, MayKeep}
use Rattle.cap_plays.specs.Corresponds.{Holds, EndFate, end_opening, HostFate, host_opening}
use Rattle.cap_power.specs.Standing.{Stands}
use Rattle.cap_power.specs.declared.power.Settled.{Settled}

-- an end of the model after a line, and what the line says
pub record Fate (Entry : Type 0) : Type 0 where
  pub settled : List Entry
  pub tried : List Entry
  pub on : Bool
  pub doubt : Doubt
  pub outcome : Outcome

-- opened with so many of the entries tried, and on or off after that
abbrev pub opened : {Entry : Type 0} → Bool → ℕ → (settled tried : List Entry) → Outcome → Fate Entry
opened on kept settled tried outcome = record { settled = settled ++ take kept tried; tried = []; on = on; doubt = no_doubt 0; outcome = outcome }

-- its sync failed without a cut: what was tried stays tried
abbrev pub not_opened : {Entry : Type 0} → Doubt → (settled tried : List Entry) → Fate Entry
not_opened old settled tried = record { settled = settled; tried = tried; on = false; doubt = old; outcome = DiskFailed }

-- by the prefix. An opening makes two calls, the sync and the length
abbrev pub opening : {Entry : Type 0} → Option Prefix → Doubt → ℕ → (settled tried : List Entry) → Fate Entry
opening None old kept settled tried = opened true kept settled tried Restarted
opening (Some (Cut call fill)) old kept settled tried = if nat_le call 2 then opened false kept settled tried WasCut else opened true kept settled tried Restarted
opening (Some (Fail call fill)) old kept settled tried =
    if nat_le call 2
    then (if call == 1 then not_opened old settled tried else opened false kept settled tried DiskFailed)
    else opened true kept settled tried Restarted
opening (Some CutAfter) old kept settled tried = opened false kept settled tried WasCut

-- it stands to this fate
abbrev pub MeetsFate : {T Entry : Type 0} → (has : List ℕ → List Entry → Type 0) → (entries : T → List Entry) → (disk : T → MemoryDisk) → Settled T → Fate Entry → Type 0
MeetsFate has entries disk after fate = Stands has entries disk after.power fate.settled fate.tried fate.on fate.doubt × (after.outcome ≡ fate.outcome)

-- an opening over these images was done: whatever entries they hold, it kept as many of those tried as the doubt allows
abbrev pub Opens : {T Entry : Type 0} → (has : List ℕ → List Entry → Type 0) → (entries : T → List Entry) → (disk : T → MemoryDisk)
    → Option Prefix → (images : List ℕ → Type 0) → Settled T → Type 0
Opens {Entry = Entry} has entries disk prefix images after =
    (settled tried : List Entry) (doubt : Doubt) → Holds has images settled tried doubt
    → (kept : ℕ) × MayKeep doubt kept × MeetsFate has entries disk after (opening prefix doubt kept settled tried)

-- the fates of the two kinds of ends, as their entries see them
abbrev pub terminal_fate : EndFate → Fate TermEntry
terminal_fate f = record { settled = f.state.settled; tried = f.state.tried; on = f.state.on; doubt = f.doubt; outcome = f.outcome }

abbrev pub host_fate : HostFate → Fate HostEntry
host_fate f = record { settled = f.state.settled; tried = f.state.tried; on = f.state.on; doubt = f.doubt; outcome = f.outcome }

terminal_either : (b : Bool) (x y : EndFate) → terminal_fate (if b then x else y) ≡ (if b then terminal_fate x else terminal_fate y)
terminal_either true x y = refl
terminal_either false x y = refl

terminal_twice : (a b : Bool) (x y z : EndFate) → terminal_fate (if a then (if b then x else y) else z) ≡ (if a then (if b then terminal_fate x else terminal_fate y) else terminal_fate z)
terminal_twice true b x y z = terminal_either b x y
terminal_twice false b x y z = refl

host_either : (b : Bool) (x y : HostFate) → host_fate (if b then x else y) ≡ (if b then host_fate x else host_fate y)
host_either true x y = refl
host_either false x y = refl

host_twice : (a b : Bool) (x y z : HostFate) → host_fate (if a then (if b then x else y) else z) ≡ (if a then (if b then host_fate x else host_fate y) else host_fate z)
host_twice true b x y z = host_either b x y
host_twice false b x y z = refl

-- a terminal's opening in these words
pub terminal_opening : (prefix : Option Prefix) (doubt : Doubt) (kept : ℕ) (s : TerminalState) → terminal_fate (end_opening prefix doubt kept s) ≡ opening prefix doubt kept s.settled s.tried
terminal_opening None doubt kept s = refl
terminal_opening (Some (Cut call fill)) doubt kept s = terminal_either (nat_le call 2) _ _
terminal_opening (Some (Fail call fill)) doubt kept s = terminal_twice (nat_le call 2) (call == 1) _ _ _
terminal_opening (Some CutAfter) doubt kept s = refl

-- the host's
pub host_opening_is : (prefix : Option Prefix) (doubt : Doubt) (kept : ℕ) (s : HostState) → host_fate (host_opening prefix doubt kept s) ≡ opening prefix doubt kept s.settled s.tried
host_opening_is None doubt kept s = refl
host_opening_is (Some (Cut call fill)) doubt kept s = host_either (nat_le call 2) _ _
host_opening_is (Some (Fail call fill)) doubt kept s = host_twice (nat_le call 2) (call == 1) _ _ _
host_opening_is (Some CutAfter) doubt kept s = refl
