-- The room for bytes that are held.
use Rattle.std.specs.Prelude.{ℕ, ◌≡◌, ◌<◌, ◌≤◌, Bool, false, List, length}

-- at most 128 bytes are held; where the reader isn't stuck, there is room for one more, and none of them ends a piece
abbrev pub IsRoomy : List ℕ → Bool → Bool → Type 0
IsRoomy held stuck ends = (length held ≤ 128) × (stuck ≡ false → length held < 128) × (stuck ≡ false → ends ≡ false)
