-- One exchange over a link: a connection is opened, one frame is put, and one is taken; or why none was.
use Rattle.std.specs.Prelude.{◌≡◌, ◌⊎◌, ℕ, ◌≤◌, Bool, IsTrue, List, [], ◌++◌, Result, Ok, Err}
use Rattle.std.specs.Global.{Vec}
use Rattle.cap_base.specs.Causes.{Rose}
use Rattle.cap_frame.specs.Frame.{IsBody, HasNoFrame, BeginsBad, frame_of, stated_length}
use Rattle.cap_link.specs.declared.link.Link.{Ghosts}
use Rattle.cap_link.specs.Lines.{Talk, Lines, Opens, Exchanges, HasNoneLeft}
use Rattle.cap_exchange.specs.declared.heard.NoAnswer.{NoAnswer}
use Rattle.cap_exchange.specs.declared.heard.NoAnswer.TheVariants.{Port, Connection, Line, Early, BadLength}

-- what a link shows: its connections and bytes, and how often opening a connection, and taking or putting, has failed
pub record Seen : Type 0 where
  pub lines : Lines
  pub port_faults : ℕ
  pub line_faults : ℕ

abbrev pub seen : {L : Type 0} → Ghosts L → L → Seen
seen g link = record { lines = g.lines link; port_faults = g.port_faults link; line_faults = g.line_faults link }

-- a front of the frame of this text was put
abbrev pub PutsFront : (text : List ℕ) → Talk → Type 0
PutsFront text talk = (rest : List ℕ) × (talk.put ++ rest ≡ frame_of text)

-- The bytes taken and put, by what was heard: the frame of the text was put whole, and the first frame of the bytes taken is that of the body; or why
-- there is none. After a put that failed nothing is taken.
abbrev pub HasHeard : (text : List ℕ) → Result (List ℕ) NoAnswer → Talk → Type 0
HasHeard text (Ok body) talk = (talk.put ≡ frame_of text) × IsBody body × ((more : List ℕ) × (talk.taken ≡ frame_of body ++ more))
HasHeard text (Err Port) talk = (talk.taken ≡ []) × (talk.put ≡ [])
HasHeard text (Err Connection) talk = (talk.taken ≡ []) × (talk.put ≡ [])
HasHeard text (Err Line) talk = PutsFront text talk × HasNoFrame talk.taken × (BeginsBad talk.taken → ⊥) × ((talk.taken ≡ []) ⊎ (talk.put ≡ frame_of text))
HasHeard text (Err Early) talk = (talk.put ≡ frame_of text) × HasNoFrame talk.taken × (BeginsBad talk.taken → ⊥)
HasHeard text (Err (BadLength n)) talk = (talk.put ≡ frame_of text) × BeginsBad talk.taken × (n ≡ stated_length talk.taken)

-- the next connection is opened, and on it these bytes are taken and put
abbrev pub TalksOnce : Talk → Lines → Lines → Type 0
TalksOnce talk before after = (opened : Lines) × Opens before opened × Exchanges talk.taken talk.put opened after

-- what the link tells of it: no connection was opened, none was left, nothing is left on the one that was opened
abbrev pub TalksBy : {B : Type 0} → Result B NoAnswer → Talk → Lines → Lines → Type 0
TalksBy (Err Port) talk before after = after ≡ before
TalksBy (Err Connection) talk before after = (after ≡ before) × (before.waiting ≡ [])
TalksBy (Err Early) talk before after = TalksOnce talk before after × HasNoneLeft after
TalksBy heard talk before after = TalksOnce talk before after

-- the count that rose
abbrev pub FaultRose : {B : Type 0} → Result B NoAnswer → Seen → Seen → Type 0
FaultRose (Err Port) before after = Rose before.port_faults after.port_faults
FaultRose (Err Line) before after = Rose before.line_faults after.line_faults
FaultRose heard before after = Unit {0}

-- no count falls
pub record NoFewer (before after : Seen) : Type 0 where
  pub port : before.port_faults ≤ after.port_faults
  pub line : before.line_faults ≤ after.line_faults

-- an exchange of this text in which this was heard
pub record Exchanged (link_tells : Bool) (text : List ℕ) (heard : Result (List ℕ) NoAnswer) (talk : Talk) (before after : Seen) : Type 0 where
  pub bytes : HasHeard text heard talk
  pub talks : IsTrue link_tells → TalksBy heard talk before.lines after.lines
  pub rose : FaultRose heard before after
  pub later : NoFewer before after

-- one that memory ended: nothing was opened, or a front of the frame was put, or all of it and then anything was taken
pub record CutShort (link_tells : Bool) (text : List ℕ) (talk : Talk) (before after : Seen) : Type 0 where
  pub front : PutsFront text talk
  pub taken : (talk.taken ≡ []) ⊎ (talk.put ≡ frame_of text)
  pub talks : IsTrue link_tells → ((after.lines ≡ before.lines) × (talk.taken ≡ []) × (talk.put ≡ [])) ⊎ TalksOnce talk before.lines after.lines
  pub later : NoFewer before after

-- a body as its bytes
abbrev pub heard_of : Result (Vec ℕ) NoAnswer → Result (List ℕ) NoAnswer
heard_of (Ok body) = Ok body.items
heard_of (Err cause) = Err cause
