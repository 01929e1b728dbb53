-- White space that is skipped at once.
use Rattle.std.specs.Prelude.{ℕ, ◌&&◌, if◌then◌else◌, List}
use Rattle.std.specs.List.{prefix_len}
use Rattle.cap_text.specs.Pieces.{is_space}
use Rattle.cap_text.specs.Machine.{Doc}
use Rattle.cap_text.specs.Bytes.{is_empty, may_blank}

-- how many bytes are white space that may stand here
abbrev pub skipped_of : Doc → List ℕ → List ℕ → ℕ
skipped_of d held bytes = if is_empty held && may_blank d then prefix_len is_space bytes else 0
