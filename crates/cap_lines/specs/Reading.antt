-- What a reader has read and given, and what a call of it gives.
use Rattle.std.specs.Prelude.{◌≡◌, ℕ, ◌+◌, ◌-◌, ◌<◌, ◌≤◌, ◌⊎◌, Bool, true, false, List, [], ◌∷◌, ◌++◌, length, take, Option, Some, None, Result, MatchResult}
use Rattle.std.specs.Io.KnownBytes.{Consumes, IsAtEnd}
use Rattle.std.specs.Str.Lines.{lines}
use Rattle.cap_lines.specs.Lines.{most_bytes, most_lines, ended_lines, AllLines, UpToFault, UpToLimit, FirstOnes}
use Rattle.cap_lines.specs.Holding.{HasNoFeed}
use Rattle.cap_lines.specs.declared.reader.LineReader.{LineReader}
use Rattle.cap_lines.specs.declared.reader.Next.{Next}
use Rattle.cap_lines.specs.declared.reader.Next.TheVariants.{Line, End, Limit}
use Rattle.cap_lines.specs.declared.reader.InputFault.{InputFault}
use Rattle.cap_lines.specs.declared.reader.InputFault.TheVariants.{Read, Memory}

-- the line that was given last
abbrev pub line_of : LineReader → List ℕ
line_of reader = reader.held.0

-- the bytes that were taken and not given
abbrev pub rest_of : LineReader → List ℕ
rest_of reader = reader.held.1

-- Whatever comes behind the bytes: their lines are those that were given, and then those of the rest.
pub record GivenBefore (rest bytes : List ℕ) (given : List (List ℕ)) : Type 0 where
  pub ended : (more : List ℕ) → ended_lines (bytes ++ more) ≡ given ++ ended_lines (rest ++ more)
  pub all : (more : List ℕ) → lines (bytes ++ more) ≡ given ++ lines (rest ++ more)

-- the input's end came, or lines may come yet
abbrev pub StandsAt : Bool → Option (List ℕ) → List ℕ → List ℕ → List (List ℕ) → Type 0
StandsAt true left rest bytes given = AllLines left bytes given
StandsAt false left rest bytes given = GivenBefore rest (take most_bytes bytes) given

-- The reader has taken these bytes from an input that has `left` left, and has given these lines.
pub record HasRead (reader : LineReader) (left : Option (List ℕ)) (bytes : List ℕ) (given : List (List ℕ)) : Type 0 where
  pub size : reader.taken ≡ length bytes
  pub count : reader.given ≡ length given
  pub fits : length given ≤ most_lines
  pub stands : StandsAt reader.is_ended left (rest_of reader) bytes given

-- what the reader then gives
abbrev pub Gives : Option (List ℕ) → List ℕ → List (List ℕ) → LineReader → Next → Type 0
Gives left bytes given reader Line =
    HasRead reader left bytes (given ++ line_of reader ∷ []) × (FirstOnes left bytes (given ++ line_of reader ∷ []))
Gives left bytes given reader End = HasRead reader left bytes given × (AllLines left bytes given)
Gives left bytes given reader Limit = HasRead reader left bytes given × (UpToLimit bytes given)

-- what it has given where it fails
abbrev pub Fails : Option (List ℕ) → List ℕ → List (List ℕ) → LineReader → InputFault → Type 0
Fails left bytes given reader Read = HasRead reader left bytes given × (UpToFault bytes given)
Fails left bytes given reader Memory = HasRead reader left bytes given × (FirstOnes left bytes given)

-- Some bytes are taken more. Whatever was taken and given before, what comes now follows it.
abbrev pub Turns : LineReader → Option (List ℕ) → Option (List ℕ) → LineReader → Result Next InputFault → Type 0
Turns old before after new result =
    (more : List ℕ) × Consumes before after more
    × ((bytes : List ℕ) (given : List (List ℕ)) → HasRead old before bytes given
    → MatchResult result (Gives after (bytes ++ more) given new) (Fails after (bytes ++ more) given new))

-- More bytes are asked for only where all lines that had ended were given.
abbrev pub IsPrompt : LineReader → Option (List ℕ) → LineReader → Type 0
IsPrompt old left new =
    (bytes : List ℕ) (given : List (List ℕ)) → HasRead old left bytes given → (new.taken ≡ old.taken) ⊎ (UpToFault bytes given)

-- Nothing can be given before more bytes come, and no limit is passed yet.
pub record Waits (reader : LineReader) : Type 0 where
  pub goes_on : reader.is_ended ≡ false
  pub size : reader.taken ≤ most_bytes
  pub count : (reader.given < most_lines) ⊎ (rest_of reader ≡ [])
  pub none : HasNoFeed (rest_of reader)

-- what is given without the input, or nothing
abbrev pub GivesSome : Option (List ℕ) → List ℕ → List (List ℕ) → LineReader → Option Next → Type 0
GivesSome left bytes given reader None = HasRead reader left bytes given
GivesSome left bytes given reader (Some next) = Gives left bytes given reader next

-- the reader gives what can be given without the input
abbrev pub Answers : LineReader → LineReader → Option Next → Type 0
Answers old new result =
    (left : Option (List ℕ)) (bytes : List ℕ) (given : List (List ℕ)) → HasRead old left bytes given → GivesSome left bytes given new result

-- the reader gives what is left at the input's end
abbrev pub Finishes : LineReader → LineReader → Next → Type 0
Finishes old new result =
    (left : Option (List ℕ)) (bytes : List ℕ) (given : List (List ℕ)) → HasRead old left bytes given → IsAtEnd left → Gives left bytes given new result

-- the reader took a piece
pub record Fed (old new : LineReader) (piece : List ℕ) : Type 0 where
  pub goes_on : new.is_ended ≡ old.is_ended
  pub size : new.taken ≡ old.taken + length piece
  pub count : new.given ≡ old.given
  pub rest : rest_of new ≡ rest_of old ++ take (most_bytes - old.taken) piece

-- the reader took as many bytes as the result tells, none at the input's end and where it failed
abbrev pub Refills : LineReader → Option (List ℕ) → Option (List ℕ) → LineReader → Result ℕ InputFault → Type 0
Refills old before after new result =
    (piece : List ℕ) × Consumes before after piece × Fed old new piece
    × MatchResult result (λ n. (n ≡ length piece) × (n ≡ 0 → IsAtEnd after)) (λ _. piece ≡ [])
