-- How serving ends.
use Rattle.std.specs.Prelude.{◌≡◌, ◌⊎◌, ℕ, ◌≤◌, ◌<◌, false, Bool, List, [], ◌∷◌, ◌++◌, ◌+◌, length, Option, Result, Ok, Err, IsTrue}
use Rattle.std.specs.Io.KnownBytes.{Appends}
use Rattle.cap_link.specs.Lines.{Lines}
use Rattle.cap_drive.specs.declared.serve.ServeEnd.{ServeEnd}
use Rattle.cap_drive.specs.declared.serve.ServeEnd.TheVariants.{Done, Port, Write, Disk, Memory}
use Rattle.cap_drive.specs.Counted.{RoseBy}
use Rattle.cap_answering.specs.Steps.{EndState, working}
use Rattle.cap_answering.specs.declared.reply.Reply.{Reply}
use Rattle.cap_drive.specs.Connections.{Connection, HostRun, AllWhole, Breaks, IsShut, is_whole}
use Rattle.cap_drive.specs.Lines.{connection_line, connection_lines, line_faults, disk_faults}

-- The run ended between two connections, or, without memory or for the disk, within the last one.
abbrev pub EndsAs : ServeEnd → List Connection → Type 0
EndsAs Done connections = AllWhole connections
EndsAs Port connections = AllWhole connections
EndsAs Write connections = AllWhole connections
EndsAs Disk connections = Breaks IsShut connections
EndsAs Memory connections = AllWhole connections ⊎ Breaks (λ ending. is_whole ending ≡ false) connections

-- The lines of all connections but the last were written, and of the line of the last one this front.
pub record BreaksOff (first : ℕ) (connections : List Connection) (old new : Option (List ℕ)) : Type 0 where
  pub earlier : List Connection
  pub last : Connection
  pub all : connections ≡ earlier ++ last ∷ []
  pub part : List ℕ
  pub rest : List ℕ
  pub parts : part ++ rest ≡ connection_line (first + length earlier) last
  pub written : Appends old new (connection_lines first earlier ++ part)

-- The lines of all connections were written; where one could not be, it is the last one, and a front of it was.
abbrev pub LinesPut : ServeEnd → (first : ℕ) → List Connection → Option (List ℕ) → Option (List ℕ) → Type 0
LinesPut Write first connections old new = BreaksOff first connections old new
LinesPut Memory first connections old new = Appends old new (connection_lines first connections) ⊎ BreaksOff first connections old new
LinesPut end first connections old new = Appends old new (connection_lines first connections)

-- The end comes back, on and with the entries that are settled; or its journal, where it is off.
abbrev pub ComesBack : {H J E : Type 0} → (H → List E) → (H → Bool) → EndState E → Result H J → Type 0
ComesBack entries has_failed stands (Ok end) = (stands ≡ working (entries end)) × (has_failed end ≡ false)
ComesBack entries has_failed stands (Err journal) = stands.on ≡ false

-- the images that a crash may leave of what comes back
abbrev pub images_of : {H J : Type 0} → (H → List ℕ → Type 0) → (J → List ℕ → Type 0) → Result H J → List ℕ → Type 0
images_of may_leave journal_may_leave (Ok end) image = may_leave end image
images_of may_leave journal_may_leave (Err journal) image = journal_may_leave journal image

-- the faults of its disk
abbrev pub faults_of : {H J : Type 0} → (H → ℕ) → (J → ℕ) → Result H J → ℕ
faults_of faults journal_faults (Ok end) = faults end
faults_of faults journal_faults (Err journal) = journal_faults journal

-- Done: the stated number was opened, or no connection was left. Port: fewer were.
abbrev pub HasOpened : ServeEnd → (connections opened : ℕ) → (link_tells : Bool) → Lines → Type 0
HasOpened Done connections opened link_tells after = (opened ≡ connections) ⊎ ((opened < connections) × (IsTrue link_tells → after.waiting ≡ []))
HasOpened Port connections opened link_tells after = opened < connections
HasOpened end connections opened link_tells after = Unit {0}

-- One run of the driver over an end that is on with these entries: the connections that it served, and where the end stands after it. The link, the text, the disk and the
-- counts speak of the same connections.
module _ {E : Type 0} (known readable : Bool) (adds : List E → ℕ → List ℕ → List E → Type 0) (replies : List E → ℕ → List ℕ → Reply → Type 0) (told : Option ℕ) (link_tells : Bool) where
  pub record Serves (end : ServeEnd) (first connections : ℕ) (start : List E) (served : List Connection) (stands : EndState E) (before after : Lines) (old new : Option (List ℕ)) (line_before line_after disk_before disk_after : ℕ) : Type 0 where
    pub run : HostRun known readable adds replies told link_tells served (working start) stands before after
    pub few : length served ≤ connections
    pub opened : HasOpened end connections (length served) link_tells after
    pub ends : EndsAs end served
    pub text : LinesPut end first served old new
    -- each line ` fault` and ` disk` has its fault
    pub faults : RoseBy (line_faults served) line_before line_after
    pub disks : RoseBy (disk_faults served) disk_before disk_after
    -- on an honest formatted disk one failed call alone never ends the run
    pub twice : IsTrue known → IsTrue readable → end ≡ Disk → RoseBy (disk_faults served + 1) disk_before disk_after
