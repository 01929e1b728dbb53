-- What was given, against the lines of all that was taken.
use Rattle.std.proofs.Common.{◌≡◌, inl, inr, ℕ, ◌<◌, ◌≤◌, ◌⊎◌, List, [], ◌∷◌, ◌++◌, length, take, refl, ap, sym, ◌∙◌, arith, append_assoc, append-nil, length-append}
use Rattle.std.specs.Str.Lines.{lines}
use Rattle.std.proofs.lemmas.List.{take_all, take-take, take_at, nil_from_length}
use Rattle.std.proofs.lemmas.Bool.{cases_lt}
use Rattle.cap_lines.specs.Lines.{most_bytes, most_lines, ended_lines, first_lines, IsWithinLimits, IsPastLimits, UpToFault, UpToLimit}
use Rattle.cap_lines.specs.Holding.{HasNoFeed, SplitsLine}
use Rattle.cap_lines.specs.Reading.{GivenBefore}
use Rattle.cap_lines.proofs.Parting.{lines_at, ended_at, ended_none, lines_one, some_line}

pub one_more : {X : Type 0} (xs ys : List X) (x : X) → xs ++ (x ∷ ys) ≡ (xs ++ x ∷ []) ++ ys
one_more xs ys x = sym (append_assoc xs (x ∷ []) ys)

-- one line more was given
pub given_split : (old line rest bytes : List ℕ) (given : List (List ℕ)) → GivenBefore old bytes given → SplitsLine old line rest
    → GivenBefore rest bytes (given ++ line ∷ [])
given_split old line rest bytes given g (part, none, parted, is) =
    let joined : (more : List ℕ) → old ++ more ≡ part ++ 10 ∷ (rest ++ more) =
    λ more. ap (λ (l : List ℕ). l ++ more) parted ∙ append_assoc part (10 ∷ rest) more in
    let ended_so : (more : List ℕ) → ended_lines (old ++ more) ≡ line ∷ ended_lines (rest ++ more) =
    λ more. ap ended_lines (joined more) ∙ (ended_at part (rest ++ more) none ∙ ap (λ (l : List ℕ). l ∷ ended_lines (rest ++ more)) (sym is)) in
    let lines_so : (more : List ℕ) → lines (old ++ more) ≡ line ∷ lines (rest ++ more) =
    λ more. ap lines (joined more) ∙ (lines_at part (rest ++ more) none ∙ ap (λ (l : List ℕ). l ∷ lines (rest ++ more)) (sym is)) in
    record {
      ended = λ more. g.ended more ∙ (ap (λ (l : List (List ℕ)). given ++ l) (ended_so more) ∙ one_more given (ended_lines (rest ++ more)) line);
      all = λ more. g.all more ∙ (ap (λ (l : List (List ℕ)). given ++ l) (lines_so more) ∙ one_more given (lines (rest ++ more)) line);
    }

-- more bytes were taken
pub given_fed : (rest bytes piece : List ℕ) (given : List (List ℕ)) → GivenBefore rest bytes given → GivenBefore (rest ++ piece) (bytes ++ piece) given
given_fed rest bytes piece given g =
    record {
      ended = λ more. ap ended_lines (append_assoc bytes piece more) ∙ (g.ended (piece ++ more) ∙ ap (λ (l : List ℕ). given ++ ended_lines l) (sym (append_assoc rest piece more)));
      all = λ more. ap lines (append_assoc bytes piece more) ∙ (g.all (piece ++ more) ∙ ap (λ (l : List ℕ). given ++ lines l) (sym (append_assoc rest piece more)));
    }

module _ (rest bytes : List ℕ) (given : List (List ℕ)) (g : GivenBefore rest bytes given) where
  pub ended_now : ended_lines bytes ≡ given ++ ended_lines rest
  ended_now = ap ended_lines (sym (append-nil bytes)) ∙ (g.ended [] ∙ ap (λ (l : List ℕ). given ++ ended_lines l) (append-nil rest))

  pub lines_now : lines bytes ≡ given ++ lines rest
  lines_now = ap lines (sym (append-nil bytes)) ∙ (g.all [] ∙ ap (λ (l : List ℕ). given ++ lines l) (append-nil rest))

take_front : {X : Type 0} (n : ℕ) (xs ys : List X) → length xs ≤ n → take (length xs) (take n (xs ++ ys)) ≡ xs
take_front n xs ys fits = take-take (length xs) n (xs ++ ys) fits ∙ take_at xs ys (length xs) refl

module _ (rest bytes : List ℕ) (given : List (List ℕ)) (g : GivenBefore rest (take most_bytes bytes) given) (fits : length given ≤ most_lines) where
  pub first_given : given ≡ take (length given) (first_lines bytes)
  first_given =
      sym (ap (λ (l : List (List ℕ)). take (length given) (take most_lines l)) (ended_now rest (take most_bytes bytes) given g)
      ∙ take_front most_lines given (ended_lines rest) fits)

  -- all lines that have ended
  pub ended_given : HasNoFeed rest → ended_lines (take most_bytes bytes) ≡ given
  ended_given none = ended_now rest (take most_bytes bytes) given g ∙ (ap (λ (l : List (List ℕ)). given ++ l) (ended_none rest none) ∙ append-nil given)

  pub limit_ended : HasNoFeed rest → given ≡ first_lines bytes
  limit_ended none =
      sym (ap (λ (l : List (List ℕ)). take most_lines l) (ended_given none) ∙ take_all most_lines given fits)

  -- as many lines as there may be
  pub limit_full : most_lines ≤ length given → given ≡ first_lines bytes
  limit_full full =
      sym (ap (λ (l : List (List ℕ)). take most_lines l) (ended_now rest (take most_bytes bytes) given g)
      ∙ take_at given (ended_lines rest) most_lines (omega (arith, full, fits)))

  -- all bytes stand within the limit
  pub all_bytes : length bytes ≤ most_bytes → take most_bytes bytes ≡ bytes
  all_bytes short = take_all most_bytes bytes short

  lines_all : length bytes ≤ most_bytes → lines bytes ≡ given ++ lines rest
  lines_all short = ap lines (sym (all_bytes short)) ∙ lines_now rest (take most_bytes bytes) given g

  past_at : (most_bytes < length bytes) ⊎ (length bytes ≤ most_bytes) → most_lines ≤ length given → 0 < length rest → IsPastLimits bytes
  past_at (inl over) full some = inl over
  past_at (inr short) full some =
      inr (omega (arith, ap length (lines_all short), length-append given (lines rest), full, some_line rest some))

  -- a line past the limit has begun
  pub limit_lines : most_lines ≤ length given → 0 < length rest → UpToLimit bytes given
  limit_lines full some = (past_at (cases_lt most_bytes (length bytes)) full some, limit_full full)

  pub limit_bytes : most_bytes < length bytes → HasNoFeed rest → UpToLimit bytes given
  limit_bytes over none = (inl over, limit_ended none)

  lines_none : length bytes ≤ most_bytes → rest ≡ [] → lines bytes ≡ given
  lines_none short empty = lines_all short ∙ (ap (λ (l : List ℕ). given ++ lines l) empty ∙ append-nil given)

  lines_last : length bytes ≤ most_bytes → HasNoFeed rest → 0 < length rest → lines bytes ≡ given ++ rest ∷ []
  lines_last short none some = lines_all short ∙ ap (λ (l : List (List ℕ)). given ++ l) (lines_one rest none some)

  -- the end, behind the last line feed
  pub within_all : length bytes ≤ most_bytes → rest ≡ [] → IsWithinLimits bytes × (given ≡ lines bytes)
  within_all short empty =
      let e = lines_none short empty in
      ((short, omega (arith, ap length e, fits)), sym e)

  -- the end, behind a last line without one
  pub within_last : length bytes ≤ most_bytes → HasNoFeed rest → 0 < length rest → length given < most_lines
      → IsWithinLimits bytes × (given ++ rest ∷ [] ≡ lines bytes)
  within_last short none some few =
      let e = lines_last short none some in
      ((short, omega (arith, ap length e, length-append given (rest ∷ []), few)), sym e)

  within_more : length bytes ≤ most_bytes → HasNoFeed rest → (length given < most_lines) ⊎ (rest ≡ []) → (0 < length rest) ⊎ (length rest ≤ 0)
      → IsWithinLimits bytes
  within_more short none (inr empty) size = (within_all short empty).0
  within_more short none (inl few) (inl some) = (within_last short none some few).0
  within_more short none (inl few) (inr nothing) = (within_all short (nil_from_length rest (omega (arith, nothing)))).0

  pub fault_at : length bytes ≤ most_bytes → HasNoFeed rest → (length given < most_lines) ⊎ (rest ≡ []) → UpToFault bytes given
  fault_at short none count = (
    within_more short none count (cases_lt 0 (length rest)),
    sym (ap ended_lines (sym (all_bytes short)) ∙ ended_given none),
  )
