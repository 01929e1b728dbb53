-- What follows a connection: the end goes on, or the run ends within it.
use Rattle.std.specs.Prelude.{◌≡◌, ◌⊎◌, ℕ, ◌+◌, Bool, true, false, IsTrue, List, Option, Result}
use Rattle.cap_link.specs.Lines.{Lines}
use Rattle.cap_answering.specs.declared.fault.ReopenFault.{ReopenFault}
use Rattle.cap_answering.specs.declared.fault.ReopenFault.TheVariants.{Memory as Lacks_memory}
use Rattle.cap_answering.specs.declared.reply.Reply.{Reply}
use Rattle.cap_answering.specs.Steps.{EndState, working, Holds}
use Rattle.cap_drive.specs.declared.closing.Closing.{Closing}
use Rattle.cap_drive.specs.declared.serve.ServeEnd.{ServeEnd}
use Rattle.cap_drive.specs.declared.serve.ServeEnd.TheVariants.{Disk, Memory}
use Rattle.cap_drive.specs.Counted.{RoseBy}
use Rattle.cap_drive.specs.Connections.{Connection, IsShut, is_whole}
use Rattle.cap_drive.specs.Closings.{closing_of, Made}
use Rattle.cap_drive.specs.Lines.{line_fault, disk_fault}
use Rattle.cap_drive.specs.Driver.{ComesBack, images_of}

-- how serving ends where opening again is refused
abbrev pub end_by : ReopenFault → ServeEnd
end_by Lacks_memory = Memory
end_by fault = Disk

module _ {E : Type 0} (known readable : Bool) (adds : List E → ℕ → List ℕ → List E → Type 0) (replies : List E → ℕ → List ℕ → Reply → Type 0) (told : Option ℕ) (tells : Bool) where
  -- The connection was served, and the end is on behind it.
  pub record GoesOn (closing : Closing) (replied : ℕ) (old new : List E) (before after : Lines) (line_before line_after disk_before disk_after : ℕ) : Type 0 where
    pub c : Connection
    pub is_told : closing_of c.ending ≡ closing
    pub whole : is_whole c.ending ≡ true
    pub made : Made known readable adds replies told tells c old (working new) before after replied
    pub faults : RoseBy (line_fault c.ending) line_before line_after
    pub disks : RoseBy (disk_fault c.ending) disk_before disk_after

  -- The run ended within the connection.
  pub record BreaksIn {H J : Type 0} (entries : H → List E) (has_failed : H → Bool) (has : List ℕ → List E → Type 0) (may_leave : H → List ℕ → Type 0) (journal_may_leave : J → List ℕ → Type 0) (why : ServeEnd) (back : Result H J) (old : List E) (before after : Lines) (line_before line_after disk_before disk_after : ℕ) : Type 0 where
    pub c : Connection
    pub stands : EndState E
    pub replied : ℕ
    pub broken : is_whole c.ending ≡ false
    pub shut : why ≡ Disk → IsShut c.ending
    pub which : (why ≡ Disk) ⊎ (why ≡ Memory)
    pub made : Made known readable adds replies told tells c old stands before after replied
    pub comes : ComesBack entries has_failed stands back
    pub holds : IsTrue known → Holds has (images_of may_leave journal_may_leave back) stands
    pub faults : RoseBy (line_fault c.ending) line_before line_after
    pub disks : RoseBy (disk_fault c.ending) disk_before disk_after
    pub twice : IsTrue known → IsTrue readable → why ≡ Disk → RoseBy (disk_fault c.ending + 1) disk_before disk_after
