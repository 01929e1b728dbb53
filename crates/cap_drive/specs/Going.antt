-- How far a connection is served.
use Rattle.std.specs.Prelude.{◌≡◌, ◌⊎◌, ℕ, ◌+◌, ◌<◌, Bool, false, IsTrue, List, [], ◌∷◌, ◌++◌, length, map, take, Option}
use Rattle.std.specs.List.{AllByRecursion}
use Rattle.cap_base.specs.Causes.{Rose}
use Rattle.cap_frame.specs.Frame.{IsBody, IsWhole, BeginsBad, HasNoFrame, stated_length, frame_of, frames_of}
use Rattle.cap_link.specs.Lines.{Lines, Exchanges}
use Rattle.cap_answering.specs.declared.reply.Reply.{Reply}
use Rattle.cap_answering.specs.Answering.{EachHasFrontOf}
use Rattle.cap_answering.specs.Steps.{Event, Acts, EndState, working, Steps}
use Rattle.cap_drive.specs.declared.closing.Closing.{Closing}
use Rattle.cap_drive.specs.declared.closing.Closing.TheVariants.{End, Fault, BadLength, Disk, FrameLimit, Memory}
use Rattle.cap_drive.specs.declared.closing.Tally.{Tally}
use Rattle.cap_drive.specs.Frames.{Answered, Task, task_of, tried_at, reply_bytes, replies_of, bodies_of, IsTold, Does, Tries}
use Rattle.cap_drive.specs.Connections.{Ending, At_put, Lacks, Lacks_to_put, last_body, last_moment, last_events, PutsPart}

abbrev pub act_of : Answered → Event Task
act_of a = Acts (task_of a)

abbrev pub moment_of : Answered → ℕ
moment_of a = a.moment

-- the counts that show a closing rose
abbrev pub HasRisen : Closing → (line_before line_after disk_before disk_after : ℕ) → Type 0
HasRisen Fault line_before line_after disk_before disk_after = Rose line_before line_after
HasRisen Disk line_before line_after disk_before disk_after = Rose disk_before disk_after
HasRisen closing line_before line_after disk_before disk_after = Unit {0}

-- the end works, but after a disk fault
abbrev pub StillWorks : Closing → (has_failed : Bool) → Type 0
StillWorks Disk has_failed = Unit {0}
StillWorks closing has_failed = has_failed ≡ false

-- a framer holds the beginning of a frame, and no bad length
pub record IsBegun (held : List ℕ) : Type 0 where
  pub no_more : HasNoFrame held
  pub good : BeginsBad held → ⊥
  pub idle : IsWhole held → ⊥
  pub small : length held < 65540

module _ {E : Type 0} (known readable : Bool) (adds : List E → ℕ → List ℕ → List E → Type 0) (replies : List E → ℕ → List ℕ → Reply → Type 0) (told : Option ℕ) (tells : Bool) where
  -- the frame of a body was answered, and the frame of the reply was put
  pub record ServesFrame (body : List ℕ) (old new : List E) (before after : Lines) (count : ℕ) : Type 0 where
    pub answered : Answered
    pub of_body : answered.body ≡ body
    pub steps : Steps known (Does readable adds replies) (Tries readable adds replies) (working old) (act_of answered ∷ []) (working new)
    pub moment : IsTold told answered.moment
    pub put : IsTrue tells → Exchanges [] (frames_of (reply_bytes answered.reply)) before after
    pub counted : count ≡ length (reply_bytes answered.reply)

  -- a connection ends so at the frame of a body
  pub record Cuts (ending : Ending) (body : List ℕ) (old : List E) (new : EndState E) (before after : Lines) : Type 0 where
    pub part : List ℕ
    pub last : (last_body ending ≡ []) ⊎ (last_body ending ≡ body ∷ [])
    pub steps : Steps known (Does readable adds replies) (Tries readable adds replies) (working old) (last_events ending) new
    pub moments : AllByRecursion (IsTold told) (last_moment ending)
    pub put : IsTrue tells → Exchanges [] part before after
    pub puts : PutsPart ending part

  -- Of bytes behind those that a framer held: the whole frames were answered, and it holds the next bytes. Meanwhile these were taken from the link, and the
  -- frames of the replies were put.
  pub record Goes (taken bytes held : List ℕ) (old : List E) (before : Lines) (tally : Tally) (next : List ℕ) (new : List E) (after : Lines) (tallied : Tally) : Type 0 where
    pub answered : List Answered
    pub joined : held ++ bytes ≡ frames_of (bodies_of answered) ++ next
    pub sizes : AllByRecursion IsBody (bodies_of answered)
    pub steps : Steps known (Does readable adds replies) (Tries readable adds replies) (working old) (map act_of answered) (working new)
    pub moments : AllByRecursion (IsTold told) (map moment_of answered)
    pub put : IsTrue tells → Exchanges taken (frames_of (replies_of answered)) before after
    pub frames : tallied.frames ≡ tally.frames + length answered
    pub replied : tallied.replies ≡ tally.replies + length (replies_of answered)

  -- So too up to a frame that is whole, of which this is known.
  pub record Broken (part : (body : List ℕ) → List E → List E → Lines → Lines → Type 0) (taken bytes held : List ℕ) (old : List E) (before : Lines) (tally : Tally) (new : List E) (after : Lines) (tallied : Tally) : Type 0 where
    pub body : List ℕ
    pub more : List ℕ
    pub middle : List E
    pub between : Lines
    pub goes : Goes taken bytes held old before tally (frame_of body ++ more) middle between tallied
    pub good : IsBody body
    pub few : tallied.frames < 65536
    pub broken : part body middle new between after

  module _ (has : List ℕ → List E → Type 0) (is_allowed : List E → Type 0) where
    -- A disk fault came in the answer to a body. These images are left, and an opening allows each list that may stand.
    pub record Tried (images : List ℕ → Type 0) (body : List ℕ) (old : List E) : Type 0 where
      pub moment : ℕ
      pub is_told : IsTold told moment
      pub added : List E
      pub tries : Tries readable adds replies old (tried_at moment body) added
      pub left : IsTrue known → EachHasFrontOf has images old added
      pub allowed : IsTrue readable → (kept : ℕ) → is_allowed (old ++ take kept added)

    -- why a frame was served no further
    abbrev pub FrameBreaks : Closing → (images : List ℕ → Type 0) (body : List ℕ) (old new : List E) (before after : Lines) → Type 0
    FrameBreaks Fault images body old new before after = (a : Answered) × (part : List ℕ) × (rest : List ℕ) × Cuts (At_put a part rest) body old (working new) before after
    FrameBreaks Disk images body old new before after = Tried images body old × (IsTrue tells → Exchanges [] [] before after)
    FrameBreaks Memory images body old new before after =
        Cuts Lacks body old (working new) before after ⊎ ((a : Answered) × (part : List ℕ) × (rest : List ℕ) × Cuts (Lacks_to_put a part rest) body old (working new) before after)
    FrameBreaks closing images body old new before after = ⊥

    -- why these bytes were served no further
    abbrev pub Stops : Closing → (images : List ℕ → Type 0) (taken bytes held : List ℕ) (old : List E) (before : Lines) (tally : Tally) (new : List E) (after : Lines) (tallied : Tally) → Type 0
    Stops End images taken bytes held old before tally new after tallied = ⊥
    Stops Fault images taken bytes held old before tally new after tallied = Broken (FrameBreaks Fault images) taken bytes held old before tally new after tallied
    Stops (BadLength n) images taken bytes held old before tally new after tallied =
        (rest : List ℕ) × Goes taken bytes held old before tally rest new after tallied × BeginsBad rest × (n ≡ stated_length rest) × (tallied.frames < 65536)
    Stops Disk images taken bytes held old before tally new after tallied = Broken (FrameBreaks Disk images) taken bytes held old before tally new after tallied
    Stops FrameLimit images taken bytes held old before tally new after tallied =
        (rest : List ℕ) × Goes taken bytes held old before tally rest new after tallied × (tallied.frames ≡ 65536)
    Stops Memory images taken bytes held old before tally new after tallied = Broken (FrameBreaks Memory images) taken bytes held old before tally new after tallied
