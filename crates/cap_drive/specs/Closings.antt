-- How a connection is closed, and what its line says.
use Rattle.std.specs.Prelude.{◌≡◌, ℕ, ◌<◌, Bool, IsTrue, List, [], ◌∷◌, ◌++◌, length, map, Option, codes}
use Rattle.std.specs.Fmt.{decimal}
use Rattle.std.specs.List.{AllByRecursion}
use Rattle.cap_frame.specs.Frame.{IsBody, frames_of}
use Rattle.cap_link.specs.Lines.{Lines, Exchanges}
use Rattle.cap_answering.specs.declared.reply.Reply.{Reply}
use Rattle.cap_answering.specs.Steps.{EndState, working, Steps}
use Rattle.cap_drive.specs.declared.closing.Closing.{Closing}
use Rattle.cap_drive.specs.declared.closing.Closing.TheVariants.{End, Fault, BadLength, Disk, FrameLimit, Memory}
use Rattle.cap_drive.specs.Frames.{Answered, replies_of, bodies_of, IsTold, Does, Tries}
use Rattle.cap_drive.specs.Connections.{Ending, At_end, At_take, At_put, At_bad_length, At_disk, At_limit, Shut, Lacks, Lacks_to_put, Connection, events_of, moments_of, IsServed, IsEmptied}
use Rattle.cap_drive.specs.Lines.{line_with}
use Rattle.cap_drive.specs.Going.{act_of, moment_of, Tried}

abbrev pub closing_of : Ending → Closing
closing_of At_end = End
closing_of At_take = Fault
closing_of (At_put a part rest) = Fault
closing_of (At_bad_length n) = BadLength n
closing_of (At_disk moment body kept) = Disk
closing_of At_limit = FrameLimit
closing_of (Shut moment body) = Disk
closing_of Lacks = Memory
closing_of (Lacks_to_put a part rest) = Memory

-- the line of a connection; none where memory lacked
abbrev pub closing_line : (number replied : ℕ) → Closing → List ℕ
closing_line number replied End = line_with number replied (codes " end")
closing_line number replied Fault = line_with number replied (codes " fault")
closing_line number replied (BadLength n) = line_with number replied (codes " bad length " ++ decimal n)
closing_line number replied Disk = line_with number replied (codes " disk")
closing_line number replied FrameLimit = line_with number replied (codes " frame limit")
closing_line number replied Memory = []

module _ {E : Type 0} (known readable : Bool) (adds : List E → ℕ → List ℕ → List E → Type 0) (replies : List E → ℕ → List ℕ → Reply → Type 0) (told : Option ℕ) (tells : Bool) where
  -- a connection was served, from these entries to that state of the end, and so many replies were put
  pub record Made (c : Connection) (old : List E) (new : EndState E) (before after : Lines) (replied : ℕ) : Type 0 where
    pub served : IsServed c
    pub steps : Steps known (Does readable adds replies) (Tries readable adds replies) (working old) (events_of c) new
    pub moments : AllByRecursion (IsTold told) (moments_of c)
    pub exchanged : IsTrue tells → Exchanges c.taken c.put before after
    pub emptied : IsTrue tells → IsEmptied c.ending after
    pub counted : replied ≡ length (replies_of c.answered)

  module _ (has : List ℕ → List E → Type 0) (is_allowed : List E → Type 0) where
    -- one that was served up to an answer in which a disk fault came
    pub record ToDisk (images : List ℕ → Type 0) (old : List E) (before after : Lines) (replied : ℕ) : Type 0 where
      pub answered : List Answered
      pub taken : List ℕ
      pub more : List ℕ
      pub middle : List E
      pub body : List ℕ
      pub joined : taken ≡ frames_of (bodies_of answered ++ body ∷ []) ++ more
      pub sizes : AllByRecursion IsBody (bodies_of answered ++ body ∷ [])
      pub few : length answered < 65536
      pub steps : Steps known (Does readable adds replies) (Tries readable adds replies) (working old) (map act_of answered) (working middle)
      pub moments : AllByRecursion (IsTold told) (map moment_of answered)
      pub exchanged : IsTrue tells → Exchanges taken (frames_of (replies_of answered)) before after
      pub counted : replied ≡ length (replies_of answered)
      pub tried : Tried known readable adds replies told tells has is_allowed images body middle

    -- What is known of a connection that is closed so.
    abbrev pub Closes : Closing → (images : List ℕ → Type 0) (old new : List E) (before after : Lines) (replied : ℕ) → Type 0
    Closes Disk images old new before after replied = ToDisk images old before after replied
    Closes closing images old new before after replied = (c : Connection) × (closing_of c.ending ≡ closing) × Made c old (working new) before after replied
