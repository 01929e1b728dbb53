-- The canonical text of an amount.
use Rattle.std.proofs.Common.{◌≡◌, ℕ, ◌+◌, ◌/◌, ◌%◌, ◌<◌, ◌≤◌, ◌∷◌, ◌++◌, [], List, length, take, refl, ap, ◌∙◌, arith, slice_set, append_assoc}
use Rattle.std.specs.Fmt.{decimal}
use Rattle.std.proofs.lemmas.Fmt.{decimal_digit, length-decimal-le}
use Rattle.std.proofs.Math.ListN.{length-set}
use Rattle.std.proofs.lemmas.Grind.{take-set_at}
use Rattle.cap_base.specs.Amount.{amount_text}

-- as `{}` writes its three numbers
pub written_amount : (n : ℕ) → decimal (n / 100) ++ 46 ∷ (decimal (n / 10 % 10) ++ decimal (n % 10)) ≡ amount_text n
written_amount n = rw (decimal_digit (n / 10 % 10) (omega arith), decimal_digit (n % 10) (omega arith)) refl

-- three bytes written one after the other
pub three_more : (out : List ℕ) (at a b c : ℕ) → at + 2 < length out
    → take (at + 3) (slice_set (slice_set (slice_set out at a) (at + 1) b) (at + 2) c) ≡ take at out ++ a ∷ b ∷ c ∷ []
three_more out at a b c room =
    let one : length (slice_set out at a) ≡ length out = length-set out at a in
    let two : length (slice_set (slice_set out at a) (at + 1) b) ≡ length out = length-set (slice_set out at a) (at + 1) b ∙ one in
    take-set_at (slice_set (slice_set out at a) (at + 1) b) (at + 2) (at + 3) c (omega arith) (omega arith)
    ∙ ap (λ (front : List ℕ). front ++ c ∷ []) (take-set_at (slice_set out at a) (at + 1) (at + 2) b (omega arith) (omega arith))
    ∙ ap (λ (front : List ℕ). (front ++ b ∷ []) ++ c ∷ []) (take-set_at out at (at + 1) a (omega arith) (omega arith))
    ∙ (append_assoc (take at out ++ a ∷ []) (b ∷ []) (c ∷ []) ∙ append_assoc (take at out) (a ∷ []) (b ∷ c ∷ []))

-- the canonical text, from its digits before the point
pub amount_put : (out : List ℕ) (at n : ℕ) → take at out ≡ decimal (n / 100) → at + 2 < length out
    → take (at + 3) (slice_set (slice_set (slice_set out at 46) (at + 1) (48 + n / 10 % 10)) (at + 2) (48 + n % 10)) ≡ amount_text n
amount_put out at n front room =
    three_more out at 46 (48 + n / 10 % 10) (48 + n % 10) room
    ∙ ap (λ (text : List ℕ). text ++ 46 ∷ (48 + n / 10 % 10) ∷ (48 + n % 10) ∷ []) front

-- an amount has at most ten digits before its point
pub few_whole : (n : ℕ) → n ≤ 999999999999 → length (decimal (n / 100)) ≤ 10
few_whole n l = length-decimal-le 10 (n / 100) (omega arith) (omega arith) (omega arith)
