-- What the reader's fields stand for.
use Rattle.std.specs.Prelude.{ℕ, length, Option, Some, None}
use Rattle.cap_text.specs.Bytes.{Reading}
use Rattle.cap_text.specs.SeenDocs.{doc_of}
use Rattle.cap_text.specs.SeenKnown.{known_of}
use Rattle.cap_text.specs.declared.reading.Reading.{Reading as CodeReading}

abbrev pub reading_of : CodeReading → Reading
reading_of r = record { doc = doc_of r.doc; known = known_of r.known; held = r.held.bytes.items; stuck = r.held.stuck; ends = r.held.ends }

abbrev pub reading_in : Option CodeReading → Option Reading
reading_in None = None
reading_in (Some r) = Some (reading_of r)

-- how many bytes of the text are held
abbrev pub held_in : Option CodeReading → ℕ
held_in None = 0
held_in (Some r) = length r.held.bytes.items
