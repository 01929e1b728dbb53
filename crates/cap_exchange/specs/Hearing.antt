-- How an exchange comes to what is heard: in the bytes of a piece, in all that are taken, and behind what is put.
use Rattle.std.specs.Prelude.{◌≡◌, ◌⊎◌, ℕ, Bool, IsTrue, List, [], ◌++◌, Option, Some, None, Result, Ok, Err}
use Rattle.std.specs.Global.{Vec}
use Rattle.cap_frame.specs.Frame.{IsBody, HasNoFrame, BeginsBad, frame_of, stated_length}
use Rattle.cap_link.specs.Lines.{Talk, Lines, Exchanges, HasNoneLeft}
use Rattle.cap_exchange.specs.declared.heard.NoAnswer.{NoAnswer}
use Rattle.cap_exchange.specs.declared.heard.NoAnswer.TheVariants.{Port, Connection, Line, Early, BadLength}
use Rattle.cap_exchange.specs.Exchange.{Seen, FaultRose, NoFewer}

-- bytes that begin with no whole frame, and with no bad length
pub record IsBegun (taken : List ℕ) : Type 0 where
  pub no_more : HasNoFrame taken
  pub good : BeginsBad taken → ⊥

-- what was heard of the bytes that were taken from an open connection
abbrev pub HeardIn : Result (List ℕ) NoAnswer → (taken : List ℕ) → Type 0
HeardIn (Ok body) taken = IsBody body × ((more : List ℕ) × (taken ≡ frame_of body ++ more))
HeardIn (Err Port) taken = ⊥
HeardIn (Err Connection) taken = ⊥
HeardIn (Err Line) taken = IsBegun taken
HeardIn (Err Early) taken = IsBegun taken
HeardIn (Err (BadLength n)) taken = BeginsBad taken × (n ≡ stated_length taken)

-- with a piece, the bytes taken have a frame or a bad length; or a frame has begun, and all of them are held
abbrev pub HearsPiece : Option (Result (Vec ℕ) NoAnswer) → (taken held : List ℕ) → Type 0
HearsPiece None taken held = (held ≡ taken) × IsBegun taken
HearsPiece (Some (Ok body)) taken held = HeardIn (Ok body.items) taken
HearsPiece (Some (Err (BadLength n))) taken held = HeardIn (Err (BadLength n)) taken
HearsPiece (Some (Err cause)) taken held = ⊥

-- an early end comes where nothing is left
abbrev pub LeftBy : {B : Type 0} → Result B NoAnswer → Lines → Type 0
LeftBy (Err Early) after = HasNoneLeft after
LeftBy heard after = Unit {0}

-- these bytes were taken and put on the open connection
pub record Talks (link_tells : Bool) (talk : Talk) (before after : Seen) : Type 0 where
  pub talks : IsTrue link_tells → Exchanges talk.taken talk.put before.lines after.lines
  pub later : NoFewer before after

-- bytes were taken from the open connection
pub record Takes (link_tells : Bool) (before after : Seen) : Type 0 where
  pub taken : List ℕ
  pub takes : Talks link_tells (record { taken = taken; put = [] }) before after

-- bytes were taken from the open connection, and this was heard of them
pub record Hears (link_tells : Bool) (heard : Result (List ℕ) NoAnswer) (before after : Seen) : Type 0 where
  pub taken : List ℕ
  pub bytes : HeardIn heard taken
  pub takes : Talks link_tells (record { taken = taken; put = [] }) before after
  pub left : IsTrue link_tells → LeftBy heard after.lines
  pub rose : FaultRose heard before after

-- a front of these bytes was put, and all of them before anything was taken
pub record PutsFirst (bytes : List ℕ) (talk : Talk) : Type 0 where
  pub front : (rest : List ℕ) × (talk.put ++ rest ≡ bytes)
  pub first : (talk.taken ≡ []) ⊎ (talk.put ≡ bytes)

-- only a fault of the line comes before all of these bytes were put
abbrev pub PutsBy : {B : Type 0} → Result B NoAnswer → (bytes : List ℕ) → Talk → Type 0
PutsBy (Err Line) bytes talk = PutsFirst bytes talk
PutsBy heard bytes talk = talk.put ≡ bytes

-- these bytes were put on the open connection, and then this was heard
pub record Converses (link_tells : Bool) (framed : List ℕ) (heard : Result (List ℕ) NoAnswer) (before after : Seen) : Type 0 where
  pub talk : Talk
  pub put : PutsBy heard framed talk
  pub bytes : HeardIn heard talk.taken
  pub talks : Talks link_tells talk before after
  pub left : IsTrue link_tells → LeftBy heard after.lines
  pub rose : FaultRose heard before after

-- memory ended it in putting these bytes, or behind that
pub record Breaks (link_tells : Bool) (framed : List ℕ) (before after : Seen) : Type 0 where
  pub talk : Talk
  pub put : PutsFirst framed talk
  pub talks : Talks link_tells talk before after
