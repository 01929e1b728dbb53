-- The frames of a stream are one list, and a framer hands out that list.
use Rattle.std.proofs.Common.{◌≡◌, ◌⊎◌, inl, inr, ℕ, ◌+◌, ◌≤◌, ◌<◌, List, [], ◌∷◌, ◌++◌, length, take, drop, refl, sym, ap, subst, ◌∙◌, append_assoc, arith}
use Rattle.std.specs.List.{AllByRecursion}
use Rattle.std.proofs.lemmas.Bool.{cases_lt}
use Rattle.std.proofs.lemmas.List.{append-nil, take_at, drop_at, length-take, length-append}
use Rattle.std.specs.Int.{w32, to_be_bytes}
use Rattle.cap_frame.specs.Frame.{IsBody, BeginsBad, HasNoFrame, Frames, frame_of, frames_of, stated_length, end_of, held_of}
use Rattle.cap_frame.specs.Pieces.{Framing, Begins, Feeds, Hands, Waits, HandsOutTheFrames, FramesAreOne}
use Rattle.cap_frame.specs.Streams.{stated_front, length_frame, stated_frame, end_bad, end_good, end_least}

pub frames_push : (bodies : List (List ℕ)) (body : List ℕ) → frames_of (bodies ++ body ∷ []) ≡ frames_of bodies ++ frame_of body
frames_push [] body = append-nil (frame_of body)
frames_push (b ∷ bodies) body = ap (λ (l : List ℕ). frame_of b ++ l) (frames_push bodies body) ∙ sym (append_assoc (frame_of b) (frames_of bodies) (frame_of body))

pub all_push : {X : Type 0} (P : X → Type 0) (xs : List X) (x : X) → AllByRecursion P xs → P x → AllByRecursion P (xs ++ x ∷ [])
all_push P [] x all p = (p, tt)
all_push P (y ∷ xs) x all p = (all.0, all_push P xs x all.1 p)

-- how bytes begin
pub data Start (s : List ℕ) : Type 0 where
  Short : length s < 4 → Start s
  Bad : BeginsBad s → Start s
  Good : 4 ≤ length s → 0 < stated_length s → stated_length s ≤ 65536 → Start s

start_at : (s : List ℕ) → (length s < 4) ⊎ (4 ≤ length s) → (0 < stated_length s) ⊎ (stated_length s ≤ 0) → (65536 < stated_length s) ⊎ (stated_length s ≤ 65536) → Start s
start_at s (inl short) some fits = Short short
start_at s (inr w) (inr none) fits = Bad (record { whole = w; bad = inl (omega (arith, none)) })
start_at s (inr w) (inl some) (inl past) = Bad (record { whole = w; bad = inr past })
start_at s (inr w) (inl some) (inr fits) = Good w some fits

pub start : (s : List ℕ) → Start s
start s = start_at s (cases_lt (length s) 4) (cases_lt 0 (stated_length s)) (cases_lt 65536 (stated_length s))

held_ends_at : (s : List ℕ) → Start s → length (held_of s) ≤ end_of (held_of s)
held_ends_at s (Short short) = omega (arith, length-take (end_of s) s, short, end_least (held_of s))
held_ends_at s (Bad bad) = omega (arith, length-take (end_of s) s, end_bad s bad, end_least (held_of s))
held_ends_at s (Good w some fits) =
    let end = end_good s w some fits in
    let long = length-take (end_of s) s in
    let same = stated_front (end_of s) s (end_least s) in
    omega (arith, long, end, same, end_good (held_of s) (omega (arith, long, end, w)) (omega (arith, same, some)) (omega (arith, same, fits)))

held_ends : (s : List ℕ) → length (held_of s) ≤ end_of (held_of s)
held_ends s = held_ends_at s (start s)

pub record Kept (taken : List ℕ) (handed : List (List ℕ)) (held : List ℕ) : Type 0 where
  pub joined : taken ≡ frames_of handed ++ held
  pub sizes : AllByRecursion IsBody handed
  pub ends : length held ≤ end_of held

kept : (taken held : List ℕ) (handed : List (List ℕ)) → Framing taken handed held → Kept taken handed held
kept _ _ _ Begins = record { joined = refl; sizes = tt; ends = omega (arith, end_least []) }
kept _ _ _ (Feeds taken held bytes handed n framing is) =
    let k = kept taken held handed framing in
    record {
      joined = ap (λ (l : List ℕ). l ++ take n bytes) k.joined ∙ append_assoc (frames_of handed) held (take n bytes);
      sizes = k.sizes;
      ends = subst (λ (l : List ℕ). length l ≤ end_of l) is (held_ends (held ++ bytes));
    }
kept _ _ _ (Hands taken body handed good framing) =
    let k = kept taken (frame_of body) handed framing in
    record {
      joined = k.joined ∙ (sym (frames_push handed body) ∙ sym (append-nil (frames_of (handed ++ body ∷ []))));
      sizes = all_push IsBody handed body k.sizes good;
      ends = omega (arith, end_least []);
    }

parted : (taken held : List ℕ) (handed : List (List ℕ)) → Kept taken handed held → Start held → (length held < end_of held) ⊎ (end_of held ≤ length held)
    → Frames taken handed held ⊎ Waits taken handed held
parted taken held handed k (Short short) _ = inl (record { joined = k.joined; sizes = k.sizes; no_more = inl short })
parted taken held handed k (Bad bad) _ = inl (record { joined = k.joined; sizes = k.sizes; no_more = inr (inr bad) })
parted taken held handed k (Good w some fits) (inl lt) =
    inl (record { joined = k.joined; sizes = k.sizes; no_more = inr (inl (record { whole = w; some = some; fits = fits; rest = omega (arith, lt, end_good held w some fits) })) })
parted taken held handed k (Good w some fits) (inr ge) =
    inr (record { joined = k.joined; sizes = k.sizes; last = record { whole = w; some = some; fits = fits; all = omega (arith, ge, k.ends, end_good held w some fits) } })

pub hands_out_the_frames : HandsOutTheFrames
hands_out_the_frames taken held handed framing = parted taken held handed (kept taken held handed framing) (start held) (cases_lt (length held) (end_of held))

long_frame : (body rest : List ℕ) → length (frame_of body ++ rest) ≡ 4 + length body + length rest
long_frame body rest = length-append (frame_of body) rest ∙ ap (λ k. k + length rest) (length_frame body)

neither : (n : ℕ) (body : List ℕ) → n ≡ length body → IsBody body → (n ≡ 0) ⊎ (65536 < n) → ⊥
neither n body e good (inl z) = omega (arith, e, z, good.some)
neither n body e good (inr past) = omega (arith, e, past, good.fits)

no_frame : (body rest : List ℕ) → IsBody body → HasNoFrame (frame_of body ++ rest) → ⊥
no_frame body rest good (inl short) = omega (arith, short, long_frame body rest)
no_frame body rest good (inr (inl unfinished)) = omega (arith, unfinished.rest, stated_frame body rest good, long_frame body rest)
no_frame body rest good (inr (inr bad)) = neither (stated_length (frame_of body ++ rest)) body (stated_frame body rest good) good bad.bad

body_back : (body : List ℕ) → drop 4 (frame_of body) ≡ body
unfolding frame_of
body_back body = drop_at (to_be_bytes w32 (length body)) body 4 refl

module _ (b c xs ys : List ℕ) (e : frame_of b ++ xs ≡ frame_of c ++ ys) (left : IsBody b) (right : IsBody c) where
  sizes_same : length b ≡ length c
  sizes_same = sym (stated_frame b xs left) ∙ (ap stated_length e ∙ stated_frame c ys right)

  long_same : length (frame_of c) ≡ length (frame_of b)
  long_same = omega (arith, length_frame b, length_frame c, sizes_same)

  frames_same : frame_of b ≡ frame_of c
  frames_same = sym (take_at (frame_of b) xs (length (frame_of b)) refl) ∙ (ap (λ (l : List ℕ). take (length (frame_of b)) l) e ∙ take_at (frame_of c) ys (length (frame_of b)) long_same)

  bodies_same : b ≡ c
  bodies_same = sym (body_back b) ∙ (ap (λ (l : List ℕ). drop 4 l) frames_same ∙ body_back c)

  rests_same : xs ≡ ys
  rests_same = sym (drop_at (frame_of b) xs (length (frame_of b)) refl) ∙ (ap (λ (l : List ℕ). drop (length (frame_of b)) l) e ∙ drop_at (frame_of c) ys (length (frame_of b)) long_same)

one : (bodies others : List (List ℕ)) (rest other : List ℕ) → frames_of bodies ++ rest ≡ frames_of others ++ other
    → AllByRecursion IsBody bodies → AllByRecursion IsBody others → HasNoFrame rest → HasNoFrame other → (bodies ≡ others) × (rest ≡ other)
one [] [] rest other e left right none neither = (refl, e)
one [] (c ∷ others) rest other e left right none also =
    absurd (no_frame c (frames_of others ++ other) right.0 (subst HasNoFrame (e ∙ append_assoc (frame_of c) (frames_of others) other) none))
one (b ∷ bodies) [] rest other e left right none also =
    absurd (no_frame b (frames_of bodies ++ rest) left.0 (subst HasNoFrame (sym e ∙ append_assoc (frame_of b) (frames_of bodies) rest) also))
one (b ∷ bodies) (c ∷ others) rest other e left right none also =
    let xs : List ℕ = frames_of bodies ++ rest in
    let ys : List ℕ = frames_of others ++ other in
    let same : frame_of b ++ xs ≡ frame_of c ++ ys = sym (append_assoc (frame_of b) (frames_of bodies) rest) ∙ (e ∙ append_assoc (frame_of c) (frames_of others) other) in
    let more = one bodies others rest other (rests_same b c xs ys same left.0 right.0) left.1 right.1 none also in
    ((λ i. bodies_same b c xs ys same left.0 right.0 i ∷ more.0 i), more.1)

pub frames_are_one : FramesAreOne
frames_are_one bytes rest other bodies others left right = one bodies others rest other (sym left.joined ∙ right.joined) left.sizes right.sizes left.no_more right.no_more
