-- Tests of a text's front, and of a text up to its `>`.
use Rattle.std.proofs.Common.{ℕ, zero, suc, ◌+◌, ◌-◌, ◌≤◌, ◌≡◌, List, [], ◌∷◌, ◌++◌, Bool, true, false, length, take, drop, length-append, refl, ◌∙◌, ap, arith, rules}
use Rattle.std.specs.Prelude.{◌&&◌, ◌==◌, min}
use Rattle.std.specs.Str.{bytes_eq}
use Rattle.std.proofs.lemmas.List.{take-append-le}
use Rattle.cap_text.specs.Pieces.{opening_text, closing_text}
use Rattle.cap_text.specs.Faults.{begins_with}
use Rattle.cap_text.specs.Bytes.{inner, content_of}
use Rattle.cap_text.specs.Inner.{closes}

pub begins_is : (front bytes : List ℕ) → bytes_eq front (take (length front) bytes) ≡ begins_with front bytes
begins_is [] bytes = refl
begins_is (b ∷ front) [] = refl
begins_is (b ∷ front) (c ∷ bytes) = ap (λ t. (b == c) && t) (begins_is front bytes)

pub begins_some : (front bytes : List ℕ) (n : ℕ) → n ≡ min (length front) (length bytes) → bytes_eq front (take n bytes) ≡ begins_with front bytes
begins_some [] bytes n e = ap (λ k. bytes_eq [] (take k bytes)) (let z : n ≡ 0 = omega (arith, e) in z)
begins_some (b ∷ front) [] n e = ap (λ k. bytes_eq (b ∷ front) (take k [])) (let z : n ≡ 0 = omega (arith, e) in z)
begins_some (b ∷ front) (c ∷ bytes) zero e = absurd (omega (arith, e))
begins_some (b ∷ front) (c ∷ bytes) (suc n) e = ap (λ t. (b == c) && t) (begins_some front bytes n (omega (arith, e)))

and_false : (b : Bool) → (b && false) ≡ false
and_false true = refl
and_false false = refl

-- two texts that end alike
nothing_is : (x : ℕ) (bs : List ℕ) → bytes_eq [] (bs ++ x ∷ []) ≡ false
nothing_is x [] = refl
nothing_is x (b ∷ bs) = refl

is_nothing : (x : ℕ) (bs : List ℕ) → bytes_eq (bs ++ x ∷ []) [] ≡ false
is_nothing x [] = refl
is_nothing x (b ∷ bs) = refl

same_byte : (x : ℕ) → (x == x) ≡ true
same_byte x = search rules

pub same_end : (x : ℕ) (xs bs : List ℕ) → bytes_eq (xs ++ x ∷ []) (bs ++ x ∷ []) ≡ bytes_eq xs bs
same_end x [] [] = ap (λ t. t && true) (same_byte x)
same_end x [] (b ∷ bs) = ap (λ t. (x == b) && t) (nothing_is x bs) ∙ and_false (x == b)
same_end x (a ∷ xs) [] = ap (λ t. (a == x) && t) (is_nothing x xs) ∙ and_false (a == x)
same_end x (a ∷ xs) (b ∷ bs) = ap (λ t. (a == b) && t) (same_end x xs bs)

-- the closing of a tag
pub closes_is : (tag front : List ℕ) → bytes_eq (closing_text tag) (front ++ 62 ∷ []) ≡ closes tag front
closes_is tag [] = refl
closes_is tag (a ∷ []) = and_false (60 == a)
closes_is tag (a ∷ b ∷ name) = ap (λ t. (60 == a) && ((47 == b) && t)) (same_end 62 tag name)

-- an opening
whole_take : (bs : List ℕ) (x : ℕ) (n : ℕ) → n ≡ length bs → take n (bs ++ x ∷ []) ≡ bs
whole_take [] x n e = ap (λ k. take k (x ∷ [])) e
whole_take (b ∷ bs) x zero e = absurd (omega (arith, e))
whole_take (b ∷ bs) x (suc n) e = ap (λ l. b ∷ l) (whole_take bs x n (omega (arith, e)))

pub inner_is : (a : ℕ) (name : List ℕ) → inner (a ∷ name ++ 62 ∷ []) ≡ name
inner_is a name = whole_take name 62 (length (a ∷ name ++ 62 ∷ []) - 2) (omega (arith, length-append name (62 ∷ [])))

and_true : (b : Bool) → (b && true) ≡ b
and_true true = refl
and_true false = refl

same_text : (t : List ℕ) → bytes_eq t t ≡ true
same_text t = search rules

pub opens_is : (a : ℕ) (name : List ℕ) → bytes_eq (opening_text (inner (a ∷ name ++ 62 ∷ []))) (a ∷ name ++ 62 ∷ []) ≡ (60 == a)
opens_is a name =
    ap (λ t. bytes_eq (opening_text t) (a ∷ name ++ 62 ∷ [])) (inner_is a name)
    ∙ (ap (λ t. (60 == a) && t) (same_text (name ++ 62 ∷ [])) ∙ and_true (60 == a))

-- what stands before the closing of a tag
cut_is : (n : ℕ) (t c : List ℕ) → bytes_eq (take n t ++ c) t ≡ bytes_eq c (drop n t)
cut_is zero t c = refl
cut_is (suc n) [] c = refl
cut_is (suc n) (b ∷ t) c = ap (λ s. s && bytes_eq (take n t ++ c) t) (same_byte b) ∙ cut_is n t c

drop_front : (n : ℕ) (bs : List ℕ) (x : ℕ) → n ≤ length bs → drop n (bs ++ x ∷ []) ≡ drop n bs ++ x ∷ []
drop_front zero bs x l = refl
drop_front (suc n) [] x l = absurd (omega arith)
drop_front (suc n) (b ∷ bs) x l = drop_front n bs x (omega arith)

-- the place where the closing of a tag would begin
abbrev pub place_of : List ℕ → List ℕ → ℕ
place_of tag front = length front - (length tag + 2)

same_place : (tag front : List ℕ) → length (front ++ 62 ∷ []) - (length tag + 3) ≡ place_of tag front
same_place tag front = omega (arith, length-append front (62 ∷ []))

pub content_is : (tag front : List ℕ) → content_of tag (front ++ 62 ∷ []) ≡ take (place_of tag front) front
content_is tag front =
    ap (λ n. take n (front ++ 62 ∷ [])) (same_place tag front) ∙ take-append-le (place_of tag front) front (62 ∷ []) (omega arith)

pub ending_is : (tag front : List ℕ) → bytes_eq (content_of tag (front ++ 62 ∷ []) ++ closing_text tag) (front ++ 62 ∷ []) ≡ closes tag (drop (place_of tag front) front)
ending_is tag front =
    ap (λ n. bytes_eq (take n (front ++ 62 ∷ []) ++ closing_text tag) (front ++ 62 ∷ [])) (same_place tag front)
    ∙ (cut_is (place_of tag front) (front ++ 62 ∷ []) (closing_text tag)
    ∙ (ap (bytes_eq (closing_text tag)) (drop_front (place_of tag front) front 62 (omega arith)) ∙ closes_is tag (drop (place_of tag front) front)))
