-- What an end makes of the connections of a link.
use Rattle.std.specs.Prelude.{◌≡◌, ℕ, ◌<◌, Bool, true, false, List, [], ◌∷◌, ◌++◌, length, map, Option, None, IsTrue}
use Rattle.std.specs.List.{AllByRecursion}
use Rattle.cap_frame.specs.Frame.{IsBody, Frames, BeginsBad, frames_of, stated_length}
use Rattle.cap_link.specs.Lines.{Lines, Opens, Exchanges, HasNoneLeft}
use Rattle.cap_answering.specs.declared.reply.Reply.{Reply}
use Rattle.cap_answering.specs.Steps.{Event, Acts, Interrupted, Restart, Interrupted_restart}
use Rattle.cap_answering.specs.Steps.{EndState, Steps}
use Rattle.cap_drive.specs.Frames.{Answered, Task, task_of, tried_at, reply_bytes, replies_of, bodies_of, IsTold, Does, Tries}

-- how a connection ended
pub data Ending : Type 0 where
  -- `take` answered 0; it failed
  At_end : Ending
  At_take : Ending
  -- a frame was answered, and a `put` failed: of the frame of the reply this part was put
  At_put : Answered → (part rest : List ℕ) → Ending
  At_bad_length : (n : ℕ) → Ending
  -- a disk fault came in the answer to this body; then the end was opened again, and so many of the entries tried stand
  At_disk : (moment : ℕ) → (body : List ℕ) → (kept : ℕ) → Ending
  At_limit : Ending
  -- The run ended within the connection. A disk fault came, and opening again was refused; or memory lacked, before the frame in hand was answered, or
  -- when a part of the frame of its reply was put.
  Shut : (moment : ℕ) → (body : List ℕ) → Ending
  Lacks : Ending
  Lacks_to_put : Answered → (part rest : List ℕ) → Ending

-- one connection: the frames that were answered and whose reply was put, how it ended, and the bytes taken and put
pub record Connection : Type 0 where
  pub answered : List Answered
  pub ending : Ending
  pub taken : List ℕ
  pub put : List ℕ

-- the run went on after it
abbrev pub is_whole : Ending → Bool
is_whole (Shut moment body) = false
is_whole Lacks = false
is_whole (Lacks_to_put a part rest) = false
is_whole _ = true

-- the frame in hand at the end
abbrev pub last_body : Ending → List (List ℕ)
last_body (At_put a part rest) = a.body ∷ []
last_body (At_disk moment body kept) = body ∷ []
last_body (Shut moment body) = body ∷ []
last_body (Lacks_to_put a part rest) = a.body ∷ []
last_body _ = []

-- the moments of all frames that were answered or tried
abbrev pub last_moment : Ending → List ℕ
last_moment (At_put a part rest) = a.moment ∷ []
last_moment (At_disk moment body kept) = moment ∷ []
last_moment (Shut moment body) = moment ∷ []
last_moment (Lacks_to_put a part rest) = a.moment ∷ []
last_moment _ = []

abbrev pub moments_of : Connection → List ℕ
moments_of c = map (λ (a : Answered). a.moment) c.answered ++ last_moment c.ending

-- the steps of the end in this connection
abbrev pub last_events : Ending → List (Event Task)
last_events (At_put a part rest) = Acts (task_of a) ∷ []
last_events (At_disk moment body kept) = Interrupted (tried_at moment body) ∷ Restart kept ∷ []
last_events (Shut moment body) = Interrupted (tried_at moment body) ∷ Interrupted_restart None ∷ []
last_events (Lacks_to_put a part rest) = Acts (task_of a) ∷ []
last_events _ = []

abbrev pub events_of : Connection → List (Event Task)
events_of c = map (λ (a : Answered). Acts (task_of a)) c.answered ++ last_events c.ending

abbrev pub all_events : List Connection → List (Event Task)
all_events [] = []
all_events (c ∷ more) = events_of c ++ all_events more

-- of the frame of the last reply a part was put
abbrev pub PutsPart : Ending → List ℕ → Type 0
PutsPart (At_put a part rest) put = (put ≡ part) × (part ++ rest ≡ frames_of (reply_bytes a.reply))
PutsPart (Lacks_to_put a part rest) put = (put ≡ part) × (part ++ rest ≡ frames_of (reply_bytes a.reply))
PutsPart ending put = put ≡ []

-- The bytes taken are these frames, and then: at the end and at a failed `take` no whole frame and no bad length; at a bad length it; at the limit, and
-- where the connection ended at the frame in hand, anything.
abbrev pub LeavesRest : Ending → (bytes : List ℕ) → (bodies : List (List ℕ)) → Type 0
LeavesRest At_end bytes bodies = (rest : List ℕ) × Frames bytes bodies rest × (BeginsBad rest → ⊥)
LeavesRest At_take bytes bodies = (rest : List ℕ) × Frames bytes bodies rest × (BeginsBad rest → ⊥)
LeavesRest (At_bad_length n) bytes bodies = (rest : List ℕ) × Frames bytes bodies rest × BeginsBad rest × (n ≡ stated_length rest)
LeavesRest ending bytes bodies = (rest : List ℕ) × (bytes ≡ frames_of bodies ++ rest) × AllByRecursion IsBody bodies

-- the 65,536th frame is the last one
abbrev pub Counts : Ending → ℕ → Type 0
Counts At_limit n = n ≡ 65536
Counts ending n = n < 65536

-- what was taken and put, by the end of the connection
pub record IsServed (c : Connection) : Type 0 where
  pub frames : LeavesRest c.ending c.taken (bodies_of c.answered ++ last_body c.ending)
  pub few : Counts c.ending (length c.answered)
  pub part : List ℕ
  pub put : c.put ≡ frames_of (replies_of c.answered) ++ part
  pub last : PutsPart c.ending part

-- at its end nothing was left on the connection
abbrev pub IsEmptied : Ending → Lines → Type 0
IsEmptied At_end lines = HasNoneLeft lines
IsEmptied ending lines = Unit {0}

-- the link opened one connection after the other, and on each these bytes were taken and put
abbrev pub Talks : Lines → List Connection → Lines → Type 0
Talks before [] after = after ≡ before
Talks before (c ∷ more) after =
    (opened : Lines) × (talked : Lines) × Opens before opened × Exchanges c.taken c.put opened talked × IsEmptied c.ending talked × Talks talked more after

abbrev pub AllWhole : List Connection → Type 0
AllWhole connections = AllByRecursion (λ (c : Connection). is_whole c.ending ≡ true) connections

-- all are whole, but the last one, whose end has P
abbrev pub Breaks : (Ending → Type 0) → List Connection → Type 0
Breaks P connections = (front : List Connection) × (last : Connection) × (connections ≡ front ++ last ∷ []) × AllWhole front × P last.ending

abbrev pub IsShut : Ending → Type 0
IsShut (Shut moment body) = Unit {0}
IsShut ending = ⊥

-- A run of the driver over an end: connections one after the other, with the steps that it made. `known` says whether the end's disk tells its contents.
module _ {E : Type 0} (known readable : Bool) (adds : List E → ℕ → List ℕ → List E → Type 0) (replies : List E → ℕ → List ℕ → Reply → Type 0) (told : Option ℕ) (link_tells : Bool) where
  pub record HostRun (connections : List Connection) (old new : EndState E) (before after : Lines) : Type 0 where
    pub steps : Steps known (Does readable adds replies) (Tries readable adds replies) old (all_events connections) new
    pub each : AllByRecursion IsServed connections
    pub moments : AllByRecursion (λ (c : Connection). AllByRecursion (IsTold told) (moments_of c)) connections
    pub talks : IsTrue link_tells → Talks before connections after
