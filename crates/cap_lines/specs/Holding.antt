-- What is held of an input: the line at hand, the bytes behind it, and room for more.
use Rattle.std.specs.Prelude.{◌≡◌, ℕ, ◌-◌, ◌≤◌, false, List, ◌∷◌, ◌++◌, length, take, drop}
use Rattle.std.specs.List.{All}
use Rattle.std.specs.Str.Lines.{strip_carriage_return}
use Rattle.cap_lines.specs.Lines.{is_feed}

abbrev pub HasNoFeed : List ℕ → Type 0
HasNoFeed bytes = All (λ b. is_feed b ≡ false) bytes

-- the bytes from one place up to another
abbrev pub between : ℕ → ℕ → List ℕ → List ℕ
between from to bytes = take (to - from) (drop from bytes)

-- The line at hand stands from `from` up to `to`, and behind `start` no line feed stands before `searched`.
pub record IsHolding (buffer : List ℕ) (from to start searched : ℕ) : Type 0 where
  pub line : from ≤ to
  pub inside : to ≤ length buffer
  pub begun : start ≤ searched
  pub reach : searched ≤ length buffer
  pub none : HasNoFeed (between start searched buffer)

-- `line` is the first line of `old`, and `rest` stands behind its line feed
abbrev pub SplitsLine : List ℕ → List ℕ → List ℕ → Type 0
SplitsLine old line rest = (part : List ℕ) × HasNoFeed part × (old ≡ part ++ 10 ∷ rest) × (line ≡ strip_carriage_return part)
