-- What a framer holds of the bytes that are taken.
use Rattle.std.proofs.Common.{◌≡◌, ◌⊎◌, inl, inr, ℕ, ◌+◌, ◌≤◌, ◌<◌, List, ◌++◌, length, take, drop, Option, None, MatchOption, sym, ap, subst, ◌∙◌, append_assoc, arith}
use Rattle.std.proofs.lemmas.Bool.{cases_lt}
use Rattle.std.proofs.lemmas.List.{length-take, take_all, take-append-drop}
use Rattle.cap_frame.specs.Frame.{IsWhole, BeginsBad, stated_length, frame_of, end_of, held_of}
use Rattle.cap_frame.specs.Streams.{stated_front, end_good, end_least}
use Rattle.cap_exchange.specs.Hearing.{IsBegun}

pub begun_short : (x : List ℕ) → length x < 4 → IsBegun x
begun_short x short = record { no_more = inl short; good = λ bad. omega (arith, bad.whole, short) }

-- the framer holds all the bytes, and they begin a frame
abbrev pub HoldsBegun : (x held : List ℕ) → Type 0
HoldsBegun x held = (held ≡ x) × IsBegun x

begun_long : (x held : List ℕ) → held ≡ held_of x → (BeginsBad x → ⊥) → (IsWhole held → ⊥) → 4 ≤ length x → 0 < stated_length x → stated_length x ≤ 65536
    → (length x < 4 + stated_length x) ⊎ (4 + stated_length x ≤ length x) → HoldsBegun x held
begun_long x held is good idle whole some fits (inl lt) = (
  is ∙ take_all (end_of x) x (omega (arith, lt, end_good x whole some fits)),
  record { no_more = inr (inl (record { whole = whole; some = some; fits = fits; rest = lt })); good = good },
)
begun_long x held is good idle whole some fits (inr ge) =
    let same : stated_length held ≡ stated_length x = ap stated_length is ∙ stated_front (end_of x) x (end_least x) in
    let size : length held ≡ 4 + stated_length x = omega (arith, ap length is, length-take (end_of x) x, end_good x whole some fits, ge) in
    absurd (idle (record { whole = omega (arith, size); some = omega (arith, same, some); fits = omega (arith, same, fits); all = omega (arith, size, same) }))

begun_at : (x held : List ℕ) → held ≡ held_of x → (BeginsBad x → ⊥) → (IsWhole held → ⊥) → (length x < 4) ⊎ (4 ≤ length x) → (0 < stated_length x) ⊎ (stated_length x ≤ 0)
    → (65536 < stated_length x) ⊎ (stated_length x ≤ 65536) → HoldsBegun x held
begun_at x held is good idle (inl short) some fits = (is ∙ take_all (end_of x) x (omega (arith, short, end_least x)), begun_short x short)
begun_at x held is good idle (inr whole) (inr none) fits = absurd (good (record { whole = whole; bad = inl (omega (arith, none)) }))
begun_at x held is good idle (inr whole) (inl some) (inl past) = absurd (good (record { whole = whole; bad = inr past }))
begun_at x held is good idle (inr whole) (inl some) (inr fits) = begun_long x held is good idle whole some fits (cases_lt (length x) (4 + stated_length x))

-- a framer was offered bytes, and no frame waits
pub begun_fed : (x held : List ℕ) → held ≡ held_of x → (BeginsBad x → ⊥) → (IsWhole held → ⊥) → HoldsBegun x held
begun_fed x held is good idle = begun_at x held is good idle (cases_lt (length x) 4) (cases_lt 0 (stated_length x)) (cases_lt 65536 (stated_length x))

pub stated_of_fed : (x held : List ℕ) (n : ℕ) → held ≡ held_of x → n ≡ stated_length held → n ≡ stated_length x
stated_of_fed x held n is e = e ∙ (ap stated_length is ∙ stated_front (end_of x) x (end_least x))

-- a frame waits, and then more of the bytes
pub first_fed : (held bytes fed body : List ℕ) (n : ℕ) → fed ≡ held ++ take n bytes → fed ≡ frame_of body → held ++ bytes ≡ frame_of body ++ drop n bytes
first_fed held bytes fed body n is whole =
    sym (ap (λ (l : List ℕ). l ++ drop n bytes) (sym whole ∙ is) ∙ (append_assoc held (take n bytes) (drop n bytes) ∙ ap (λ (l : List ℕ). held ++ l) (take-append-drop n bytes)))

pub at_none : {X : Type 0} (r : Option X) (A B : Type 0) → (let none : Option X = None in r ≡ none) → MatchOption r A (λ _. B) → A
at_none r A B e h = subst (λ q. MatchOption q A (λ _. B)) e h
