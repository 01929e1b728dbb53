-- Runs of bytes, by the law of one byte.
use Rattle.std.proofs.Common.{ℕ, zero, suc, ◌<◌, ◌≤◌, ◌+◌, ◌≡◌, List, [], ◌∷◌, ◌++◌, Bool, true, false, nat_lt, refl, sym, ◌∙◌, ap, arith, append_assoc, append-nil, cond, length, take, drop, length-append, get_or, not, rules, subst}
use Rattle.std.specs.Prelude.{◌&&◌, ◌||◌, ⊤}
use Rattle.std.specs.List.{list_all, list_any, prefix_len, position_or_len}
use Rattle.std.proofs.lemmas.List.{take_all, take_more, take-take, drop-take, take-append-drop, length-take, length-take-le}
use Rattle.std.proofs.lemmas.List.Sums.{fold-append, take_while-cons, passes_at_first}
use Rattle.cap_text.specs.Pieces.{is_space}
use Rattle.cap_text.specs.Faults.{Known, is_end}
use Rattle.cap_text.specs.Machine.{Doc, first, prolog, within}
use Rattle.cap_text.specs.Bytes.{Reading, is_empty, may_blank, piece_of, ended, on_byte, on_bytes, blanked, passed_by}
use Rattle.cap_text.specs.Runs.{skipped_of}
use Rattle.cap_text.proofs.Common.{and_true, below}
use Rattle.cap_text.proofs.Stepping.{reading, skips_byte, ends_piece, holds_byte, empty_is}
use Rattle.cap_text.proofs.Came.{take_more as take_twice, or_end}

-- ---- bytes behind what can't be read

few_taken : (xs : List ℕ) → length (take 128 xs) ≤ 128
few_taken xs = omega (arith, length-take 128 xs)

or_assoc : (a b c : Bool) → ((a || b) || c) ≡ (a || (b || c))
or_assoc true b c = refl
or_assoc false b c = refl

pub kept_run : (d : Doc) (n : Known) (bs held : List ℕ) (ends : Bool) → length held ≤ 128
    → on_bytes (reading d n held true ends) bs ≡ reading d n (take 128 (held ++ bs)) true (ends || list_any is_end bs)
kept_run d n [] held ends few =
    ap (λ t. reading d n held true t) (sym (or_end ends))
    ∙ ap (λ l. reading d n l true (ends || false)) (sym (take_all 128 held few) ∙ ap (take 128) (sym (append-nil held)))
kept_run d n (b ∷ bs) held ends few =
    kept_run d n bs (take 128 (held ++ b ∷ [])) (ends || is_end b) (few_taken (held ++ b ∷ []))
    ∙ ap (λ l. reading d n l true ((ends || is_end b) || list_any is_end bs)) (take_twice 128 (held ++ b ∷ []) bs ∙ ap (take 128) (append_assoc held (b ∷ []) bs))
    ∙ ap (λ t. reading d n (take 128 (held ++ b ∷ bs)) true t) (or_assoc ends (is_end b) (list_any is_end bs))

-- ---- white space

all_if : (b : Bool) (p : ℕ → Bool) (x : ℕ) (l : List ℕ) → p x ≡ b → list_all p l ≡ true → list_all p (cond b (x ∷ l) []) ≡ true
all_if true p x l e h = ap (λ t. t && list_all p l) e ∙ h
all_if false p x l e h = refl

-- what passes a test from the front on does
pub front_passes : (p : ℕ → Bool) (xs : List ℕ) → list_all p (take (prefix_len p xs) xs) ≡ true
front_passes p [] = refl
front_passes p (x ∷ xs) = ap (list_all p) (take_while-cons p x xs) ∙ all_if (p x) p x (take (prefix_len p xs) xs) refl (front_passes p xs)

blanked_may : (d : Doc) → may_blank d ≡ true → may_blank (blanked d) ≡ true
blanked_may first e = refl
blanked_may prolog e = refl
blanked_may (within k s) e = e

blanked_twice : (d : Doc) → blanked (blanked d) ≡ blanked d
blanked_twice first = refl
blanked_twice prolog = refl
blanked_twice (within k s) = refl

skips : (d : Doc) (n : Known) (b : ℕ) → may_blank d ≡ true → is_space b ≡ true → on_byte (reading d n [] false false) b ≡ reading (blanked d) (passed_by n 1) [] false false
skips d n b may space =
    sym (skips_byte d (blanked d) n [] false false b refl refl (sym (ap (λ t. t && may_blank d) space ∙ may)) refl)

passed_more : (n : Known) (m k : ℕ) → m ≡ 1 + k → passed_by (passed_by n 1) k ≡ passed_by n m
passed_more n m k e = ap (λ p. record n { place = p }) (let f : n.place + 1 + k ≡ n.place + m = omega (arith, e) in f)

white_run : (d : Doc) (n : Known) (b : ℕ) (bs : List ℕ) → may_blank d ≡ true → list_all is_space (b ∷ bs) ≡ true
    → on_bytes (reading d n [] false false) (b ∷ bs) ≡ reading (blanked d) (passed_by n (length (b ∷ bs))) [] false false
white_run d n b [] may white = skips d n b may (and_true (is_space b) true white).0
white_run d n b (c ∷ cs) may white =
    let both = and_true (is_space b) (list_all is_space (c ∷ cs)) white in
    ap (λ r. on_bytes r (c ∷ cs)) (skips d n b may both.0)
    ∙ white_run (blanked d) (passed_by n 1) c cs (blanked_may d may) both.1
    ∙ ap (λ e. reading e (passed_by (passed_by n 1) (length (c ∷ cs))) [] false false) (blanked_twice d)
    ∙ ap (λ k. reading (blanked d) k [] false false) (passed_more n (length (b ∷ c ∷ cs)) (length (c ∷ cs)) (omega arith))

white_list : (d : Doc) (n : Known) (m : ℕ) (ws : List ℕ) → may_blank d ≡ true → list_all is_space ws ≡ true → length ws ≡ m → (m ≡ 0 → ⊥)
    → on_bytes (reading d n [] false false) ws ≡ reading (blanked d) (passed_by n m) [] false false
white_list d n m [] may white e some = absurd (some (sym e))
white_list d n m (b ∷ bs) may white e some = white_run d n b bs may white ∙ ap (λ k. reading (blanked d) (passed_by n k) [] false false) e

skip_cases : (x y : Bool) (p m : ℕ) → m ≡ cond (x && y) p 0 → (m ≡ 0 → ⊥) → (x ≡ true) × (y ≡ true) × (m ≡ p)
skip_cases true true p m e some = (refl, refl, e)
skip_cases true false p m e some = absurd (some e)
skip_cases false y p m e some = absurd (some e)

-- white space that is skipped at once
pub skipped_run : (d : Doc) (n : Known) (held bytes : List ℕ) (m : ℕ) → m ≡ skipped_of d held bytes → (m ≡ 0 → ⊥) → m ≤ length bytes
    → reading (blanked d) (passed_by n m) held false false ≡ on_bytes (reading d n held false false) (take m bytes)
skipped_run d n held bytes m e some few =
    let c = skip_cases (is_empty held) (may_blank d) (prefix_len is_space bytes) m e some in
    let nothing : held ≡ [] = empty_is held c.0 in
    ap (λ h. reading (blanked d) (passed_by n m) h false false) nothing
    ∙ sym (white_list d n m (take m bytes) c.1 (ap (λ k. list_all is_space (take k bytes)) c.2 ∙ front_passes is_space bytes) (length-take-le m bytes few) some)
    ∙ ap (λ h. on_bytes (reading d n h false false) (take m bytes)) (sym nothing)

-- ---- bytes that are held

abbrev pub Unskipped : Doc → List ℕ → List ℕ → Type 0
Unskipped d held [] = ⊤
Unskipped d held (b ∷ bs) = (is_empty held && (is_space b && may_blank d)) ≡ false

no_end : ℕ → Bool
no_end b = not (is_end b)

is_not : (b : Bool) → not b ≡ true → b ≡ false
is_not true e = cc
is_not false e = refl

not_empty : (held : List ℕ) (b : ℕ) → is_empty (held ++ b ∷ []) ≡ false
not_empty [] b = refl
not_empty (a ∷ held) b = refl

held_one : (d : Doc) (n : Known) (held : List ℕ) (b : ℕ) → (is_empty held && (is_space b && may_blank d)) ≡ false → not (is_end b) ≡ true
    → on_byte (reading d n held false false) b ≡ reading d n (held ++ b ∷ []) (not (nat_lt (length held + 1) 128)) false
held_one d n held b u plain =
    sym (holds_byte d n held (held ++ b ∷ []) false false (not (nat_lt (length held + 1) 128)) false b refl refl (sym u) (is_not (is_end b) plain) refl refl refl)

pub held_run : (d : Doc) (n : Known) (bs held : List ℕ) → length held < 128 → length held + length bs ≤ 128 → Unskipped d held bs → list_all (λ b. not (is_end b)) bs ≡ true
    → on_bytes (reading d n held false false) bs ≡ reading d n (held ++ bs) (not (nat_lt (length held + length bs) 128)) false
held_run d n [] held free room u p =
    ap (λ l. reading d n l false false) (sym (append-nil held))
    ∙ ap (λ t. reading d n (held ++ []) (not t) false) (sym (below (length held + 0) 128 (omega (arith, free))))
held_run d n (b ∷ []) held free room u p = held_one d n held b u (and_true (not (is_end b)) true p).0
held_run d n (b ∷ c ∷ cs) held free room u p =
    let both = and_true (not (is_end b)) (list_all (λ b. not (is_end b)) (c ∷ cs)) p in
    let size : length (held ++ b ∷ []) ≡ length held + 1 = length-append held (b ∷ []) in
    let more : length held + 1 < 128 = omega (arith, room) in
    ap (λ r. on_bytes r (c ∷ cs)) (held_one d n held b u both.0 ∙ ap (λ t. reading d n (held ++ b ∷ []) (not t) false) (below (length held + 1) 128 more))
    ∙ held_run d n (c ∷ cs) (held ++ b ∷ []) (omega (arith, size, more)) (omega (arith, size, room)) (ap (λ t. t && (is_space c && may_blank d)) (not_empty held b)) both.1
    ∙ ap (λ l. reading d n l (not (nat_lt (length (held ++ b ∷ []) + length (c ∷ cs)) 128)) false) (append_assoc held (b ∷ []) (c ∷ cs))
    ∙ ap (λ m. reading d n (held ++ b ∷ c ∷ cs) (not (nat_lt m 128)) false) (let e : length (held ++ b ∷ []) + length (c ∷ cs) ≡ length held + length (b ∷ c ∷ cs) = omega (arith, size) in e)

unskip_cases : (x y z : Bool) (p : ℕ) → cond (x && z) (cond y (1 + p) 0) 0 ≡ 0 → (x && (y && z)) ≡ false
unskip_cases true true true p e = absurd (omega (arith, e))
unskip_cases true true false p e = refl
unskip_cases true false z p e = refl
unskip_cases false y z p e = refl

-- the first byte isn't skipped
pub unskipped : (d : Doc) (held bytes : List ℕ) (k : ℕ) → skipped_of d held bytes ≡ 0 → Unskipped d held (take k bytes)
unskipped d held [] zero e = tt
unskipped d held [] (suc k) e = tt
unskipped d held (b ∷ bs) zero e = tt
unskipped d held (b ∷ bs) (suc k) e = unskip_cases (is_empty held) (is_space b) (may_blank d) (prefix_len is_space bs) e

-- no byte of what stands before the first `>` is one
pub before_end : (near bytes : List ℕ) (room at : ℕ) → near ≡ take room bytes → at ≡ position_or_len is_end near → list_all (λ b. not (is_end b)) (take at near) ≡ true
before_end near bytes room at e is = ap (λ k. list_all (λ b. not (is_end b)) (take k near)) is ∙ front_passes (λ b. not (is_end b)) near

near_taken : (bytes near : List ℕ) (room at : ℕ) → near ≡ take room bytes → at ≤ length near → take at near ≡ take at bytes
near_taken bytes near room at e l = ap (take at) e ∙ take-take at room bytes (omega (arith, l, ap length e, length-take room bytes))

-- bytes that are held at once
pub read_held : (d : Doc) (n : Known) (held bytes near : List ℕ) (room at : ℕ) → near ≡ take room bytes → at ≡ position_or_len is_end near → at ≤ length near
    → length held < 128 → length held + length near ≤ 128 → skipped_of d held bytes ≡ 0
    → reading d n (held ++ take at near) (not (nat_lt (length held + length (take at near)) 128)) false ≡ on_bytes (reading d n held false false) (take at bytes)
read_held d n held bytes near room at e is inside free few begun =
    let same = near_taken bytes near room at e inside in
    sym (held_run d n (take at near) held free (omega (arith, few, length-take at near))
    (subst (Unskipped d held) (sym same) (unskipped d held bytes at begun)) (before_end near bytes room at e is))
    ∙ ap (on_bytes (reading d n held false false)) same

never : (b : Bool) → false ≡ (b && false)
never true = refl
never false = refl

byte_is : (b : ℕ) → is_end b ≡ true → b ≡ 62
byte_is b e = search rules

-- and the end of a piece after them
pub read_ended : (d : Doc) (n : Known) (held bytes near : List ℕ) (room at : ℕ) → near ≡ take room bytes → at ≡ position_or_len is_end near → at < length near
    → length held < 128 → length held + length near ≤ 128 → skipped_of d held bytes ≡ 0
    → ended d n ((held ++ take at near) ++ 62 ∷ []) (piece_of d ((held ++ take at near) ++ 62 ∷ [])) ≡ on_bytes (reading d n held false false) (take (at + 1) bytes)
read_ended d n held bytes near room at e is more free few begun =
    let front = take at near in
    let last : get_or near at 0 ≡ 62 = byte_is (get_or near at 0) (ap (λ k. is_end (get_or near k 0)) is ∙ passes_at_first is_end near 0 (omega (arith, sym is, more))) in
    let short : length held + length front < 128 = omega (arith, few, more, length-take at near) in
    ends_piece d n (held ++ front) false false 62 refl (never (is_empty (held ++ front))) refl
    ∙ ap (λ t. on_byte (reading d n (held ++ front) (not t) false) 62) (sym (below (length held + length front) 128 short))
    ∙ ap (λ r. on_byte r 62) (read_held d n held bytes near room at e is (omega (arith, more)) free few begun ∙ ap (on_bytes (reading d n held false false)) (sym (near_taken bytes near room at e (omega (arith, more)))))
    ∙ sym (fold-append on_byte (reading d n held false false) front (62 ∷ []))
    ∙ ap (λ b. on_bytes (reading d n held false false) (front ++ b ∷ [])) (sym last)
    ∙ ap (on_bytes (reading d n held false false)) (sym (take_more near at 0 more) ∙ near_taken bytes near room (at + 1) e (omega (arith, more)))

-- what the code's fields say of a reading
pub reading_is : (d e : Doc) (n m : Known) (h g : List ℕ) (s t u v : Bool) → d ≡ e → n ≡ m → h ≡ g → s ≡ t → u ≡ v → reading d n h s u ≡ reading e m g t v
reading_is d e n m h g s t u v a b c f i =
    ap (λ x. reading x n h s u) a
    ∙ ap (λ x. reading e x h s u) b
    ∙ ap (λ x. reading e m x s u) c
    ∙ ap (λ x. reading e m g x u) f
    ∙ ap (λ x. reading e m g t x) i

-- ---- one run after the other

pub run_more : (r : Reading) (piece : List ℕ) (at n : ℕ) → on_bytes (on_bytes r (take at piece)) (take n (drop at piece)) ≡ on_bytes r (take (at + n) piece)
run_more r piece at n =
    sym (fold-append on_byte r (take at piece) (take n (drop at piece)))
    ∙ ap (on_bytes r) (ap (λ l. l ++ take n (drop at piece)) (sym (take-take at (at + n) piece (omega arith)))
    ∙ ap (λ l. take at (take (at + n) piece) ++ l) (sym (drop-take at n piece))
    ∙ take-append-drop at (take (at + n) piece))
