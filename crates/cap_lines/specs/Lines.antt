-- The lines of an input, those of them that have ended, and the limits of both.
use Rattle.std.specs.Prelude.{◌≡◌, ℕ, ◌<◌, ◌≤◌, ◌⊎◌, ◌==◌, Bool, List, [], ◌∷◌, length, take}
use Rattle.std.specs.declared.option.Option.{Option}
use Rattle.std.specs.Io.KnownBytes.{IsAtEnd}
use Rattle.std.specs.List.{slice_split}
use Rattle.std.specs.Str.Lines.{lines, strip_carriage_return}

-- the most bytes and the most lines of an input
abbrev pub most_bytes : ℕ
most_bytes = 16777216

abbrev pub most_lines : ℕ
most_lines = 100000

-- a line feed
abbrev pub is_feed : ℕ → Bool
is_feed b = b == 10

-- all parts but the last, each without the carriage return at its end
abbrev pub ended_of_parts : List (List ℕ) → List (List ℕ)
ended_of_parts [] = []
ended_of_parts (x ∷ []) = []
ended_of_parts (x ∷ y ∷ more) = strip_carriage_return x ∷ ended_of_parts (y ∷ more)

-- the lines that have ended: what stands behind the last line feed is none
abbrev pub ended_lines : List ℕ → List (List ℕ)
ended_lines bytes = ended_of_parts (slice_split is_feed bytes)

-- the ended lines that stand within both limits
abbrev pub first_lines : List ℕ → List (List ℕ)
first_lines bytes = take most_lines (ended_lines (take most_bytes bytes))

abbrev pub IsWithinLimits : List ℕ → Type 0
IsWithinLimits bytes = (length bytes ≤ most_bytes) × (length (lines bytes) ≤ most_lines)

abbrev pub IsPastLimits : List ℕ → Type 0
IsPastLimits bytes = (most_bytes < length bytes) ⊎ (most_lines < length (lines bytes))

-- the input's end came: all lines were given
abbrev pub AllLines : Option (List ℕ) → List ℕ → List (List ℕ) → Type 0
AllLines left bytes given = IsAtEnd left × (IsWithinLimits bytes) × (given ≡ lines bytes)

-- a take failed: all lines that had ended were given
abbrev pub UpToFault : List ℕ → List (List ℕ) → Type 0
UpToFault bytes given = (IsWithinLimits bytes) × (given ≡ ended_lines bytes)

-- a limit was passed: all lines that had ended within both were given
abbrev pub UpToLimit : List ℕ → List (List ℕ) → Type 0
UpToLimit bytes given = (IsPastLimits bytes) × (given ≡ first_lines bytes)

-- so far: the first lines, or all
abbrev pub FirstOnes : Option (List ℕ) → List ℕ → List (List ℕ) → Type 0
FirstOnes left bytes given = ((k : ℕ) × (given ≡ take k (first_lines bytes))) ⊎ (AllLines left bytes given)
