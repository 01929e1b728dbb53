-- What a framer holds between two frames.
use Rattle.std.proofs.Common.{◌≡◌, ◌⊎◌, inl, inr, ℕ, ◌+◌, ◌*◌, ◌≤◌, ◌<◌, List, [], ◌∷◌, ◌++◌, length, take, ap, ◌∙◌, arith}
use Rattle.std.specs.List.{AllByRecursion}
use Rattle.std.proofs.lemmas.Bool.{cases_lt}
use Rattle.std.proofs.lemmas.List.{length-take, length-append}
use Rattle.cap_frame.specs.Frame.{IsBody, IsWhole, BeginsBad, stated_length, frame_of, frames_of, end_of, held_of}
use Rattle.cap_frame.specs.Streams.{stated_front, length_frame, end_good, end_least}
use Rattle.cap_drive.specs.Going.{IsBegun}

pub begun_short : (held : List ℕ) → length held < 4 → IsBegun held
begun_short held short = record {
  no_more = inl short;
  good = λ bad. omega (arith, bad.whole, short);
  idle = λ whole. omega (arith, whole.whole, short);
  small = omega (arith, short);
}

pub begun_none : (held : List ℕ) → held ≡ [] → IsBegun held
begun_none held is = begun_short held (omega (arith, ap length is))

not_bad : (n : ℕ) → 0 < n → n ≤ 65536 → (n ≡ 0) ⊎ (65536 < n) → ⊥
not_bad n some fits (inl z) = omega (arith, some, z)
not_bad n some fits (inr past) = omega (arith, fits, past)

begun_sized : (held : List ℕ) → (IsWhole held → ⊥) → 4 ≤ length held → 0 < stated_length held → stated_length held ≤ 65536 → length held ≤ 4 + stated_length held
    → (length held < 4 + stated_length held) ⊎ (4 + stated_length held ≤ length held) → IsBegun held
begun_sized held idle four some fits most (inl lt) = record {
  no_more = inr (inl (record { whole = four; some = some; fits = fits; rest = lt }));
  good = λ bad. not_bad (stated_length held) some fits bad.bad;
  idle = idle;
  small = omega (arith, lt, fits);
}
begun_sized held idle four some fits most (inr ge) = absurd (idle (record { whole = four; some = some; fits = fits; all = omega (arith, most, ge) }))

begun_long : (x held : List ℕ) → held ≡ held_of x → (IsWhole held → ⊥) → 4 ≤ length x → 0 < stated_length x → stated_length x ≤ 65536
    → (length held < 4 + stated_length held) ⊎ (4 + stated_length held ≤ length held) → IsBegun held
begun_long x held is idle whole some fits sizes =
    let same : stated_length held ≡ stated_length x = ap stated_length is ∙ stated_front (end_of x) x (end_least x) in
    let end = end_good x whole some fits in
    let long : length held ≡ length (take (end_of x) x) = ap length is in
    let size = length-take (end_of x) x in
    let good : 0 < stated_length held = omega (arith, same, some) in
    let small : stated_length held ≤ 65536 = omega (arith, same, fits) in
    let four : 4 ≤ length held = omega (arith, long, size, end, whole) in
    begun_sized held idle four good small (omega (arith, long, size, end, same)) sizes

begun_at : (x held : List ℕ) → held ≡ held_of x → (BeginsBad x → ⊥) → (IsWhole held → ⊥) → (length x < 4) ⊎ (4 ≤ length x) → (0 < stated_length x) ⊎ (stated_length x ≤ 0)
    → (65536 < stated_length x) ⊎ (stated_length x ≤ 65536) → IsBegun held
begun_at x held is good idle (inl short) some fits = begun_short held (omega (arith, ap length is, length-take (end_of x) x, short))
begun_at x held is good idle (inr whole) (inr none) fits = absurd (good (record { whole = whole; bad = inl (omega (arith, none)) }))
begun_at x held is good idle (inr whole) (inl some) (inl past) = absurd (good (record { whole = whole; bad = inr past }))
begun_at x held is good idle (inr whole) (inl some) (inr fits) = begun_long x held is idle whole some fits (cases_lt (length held) (4 + stated_length held))

-- a framer was offered bytes, and no frame waits
pub begun_fed : (x held : List ℕ) → held ≡ held_of x → (BeginsBad x → ⊥) → (IsWhole held → ⊥) → IsBegun held
begun_fed x held is good idle = begun_at x held is good idle (cases_lt (length x) 4) (cases_lt 0 (stated_length x)) (cases_lt 65536 (stated_length x))

pub stated_of_fed : (x held : List ℕ) (n : ℕ) → held ≡ held_of x → n ≡ stated_length held → n ≡ stated_length x
stated_of_fed x held n is e = e ∙ (ap stated_length is ∙ stated_front (end_of x) x (end_least x))

pub length_frames : (bodies : List (List ℕ)) → AllByRecursion IsBody bodies → length (frames_of bodies) ≤ 65540 * length bodies
length_frames [] all = omega arith
length_frames (body ∷ bodies) all =
    let more = length_frames bodies all.1 in
    let fits = all.0.fits in
    omega (arith, more, fits, length-append (frame_of body) (frames_of bodies), length_frame body)

-- so many bytes have more frames than a connection
pub too_many : (taken held : List ℕ) (bodies : List (List ℕ)) (n : ℕ) → taken ≡ frames_of bodies ++ held → AllByRecursion IsBody bodies → length bodies ≡ n → n < 65536
    → length held < 65540 → 4295229440 ≤ length taken → ⊥
too_many taken held bodies n joined sizes count few small many =
    omega (arith, ap length joined, length-append (frames_of bodies) held, length_frames bodies sizes, count, few, small, many)
