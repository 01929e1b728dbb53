-- What a reader has read, and what an error says of it.
use Rattle.std.specs.Prelude.{ℕ, ◌≡◌, ⊤, List, Some, None}
use Rattle.cap_text.specs.declared.error.ReadError.{ReadError}
use Rattle.cap_text.specs.declared.error.ReadError.TheVariants.{Fault, Memory}
use Rattle.cap_text.specs.declared.reader.PieceReader.{PieceReader}
use Rattle.cap_text.specs.Faults.{FirstFault}
use Rattle.cap_text.specs.Bytes.{begun, on_bytes}
use Rattle.cap_text.specs.Seen.{reading_in, held_in}

-- the reader has read these bytes, in whatever pieces
abbrev pub HasRead : PieceReader → List ℕ → Type 0
HasRead r bytes = reading_in r.reading ≡ Some (on_bytes begun bytes)

-- memory ran out
abbrev pub HasFailed : PieceReader → Type 0
HasFailed r = reading_in r.reading ≡ None

-- memory ran out, or this is the first fault
abbrev pub IsFaultOf : List ℕ → ReadError → Type 0
IsFaultOf bytes Memory = ⊤
IsFaultOf bytes (Fault f) = FirstFault bytes f

-- how many bytes of the text are held
abbrev pub held_by : PieceReader → ℕ
held_by r = held_in r.reading
