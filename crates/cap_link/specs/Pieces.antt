-- Connections in memory, as lists.
use Rattle.std.specs.Prelude.{ℕ, ◌+◌, Bool, true, false, List, [], ◌∷◌, take, drop, map, slice_index_or, Option, Some, None}
use Rattle.cap_link.specs.Lines.{Talk, Line, Lines}
use Rattle.std.proofs.Common.{Vec, Global}

-- the bytes of each
abbrev pub lists_of : List (Vec ℕ Global) → List (List ℕ)
lists_of vectors = map (λ (v : Vec ℕ Global). v.items) vectors

-- the bytes at a place; none past the end
abbrev pub piece : List (List ℕ) → ℕ → List ℕ
piece lists i = slice_index_or lists i []

-- connections that have ended: what was taken from each, and what was put on it
abbrev pub talks_from : (taken puts : List (List ℕ)) → List Talk
talks_from [] puts = []
talks_from (taken ∷ more) puts = record { taken = taken; put = piece puts 0 } ∷ talks_from more (drop 1 puts)

-- how many connections are open
abbrev pub one_if : Bool → ℕ
one_if false = 0
one_if true = 1

-- the open connection, of whose bytes so many were taken
abbrev pub line_of : Bool → (bytes : List ℕ) (at : ℕ) (put : List ℕ) → Option Line
line_of false bytes at put = None
line_of true bytes at put = Some (record { left = drop at bytes; talk = record { taken = take at bytes; put = put } })

-- what is told where so many connections have ended, and the next one is open or not
abbrev pub told_of : (all puts : List (List ℕ)) (ended : ℕ) (is_open : Bool) (at : ℕ) → Lines
told_of all puts ended is_open at =
    record {
      waiting = drop (ended + one_if is_open) all;
      ended = talks_from (take ended all) puts;
      current = line_of is_open (piece all ended) at (piece puts ended);
    }
