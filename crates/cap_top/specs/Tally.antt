-- Bytes and lines, counted byte by byte.
use Rattle.std.specs.Prelude.{ℕ, ◌+◌, true, if◌then◌else◌, ◌==◌, List, fold}
use Rattle.cap_top.specs.declared.tally.Tally.{Tally}

abbrev pub nothing : Tally
nothing = record { bytes = 0; lines = 0; at_start = true }

-- with a byte more, which begins a line at the start and after a line feed
abbrev pub with_byte : Tally → ℕ → Tally
with_byte t b = record { bytes = t.bytes + 1; lines = if t.at_start then t.lines + 1 else t.lines; at_start = b == 10 }

abbrev pub tally_of : List ℕ → Tally
tally_of bytes = fold with_byte nothing bytes
