-- The place in its table that an open structure has come to.
use Rattle.std.specs.Prelude.{ℕ}
use Rattle.cap_text.specs.declared.frames.Left.{Left}
use Rattle.cap_text.specs.declared.frames.Left.TheVariants.{Rows, Choice, Filled}

abbrev pub place_in : Left → ℕ
place_in (Rows at count) = at
place_in Choice = 0
place_in Filled = 0
