-- The bytes of hexadecimal digits, two digits at a time.
use Rattle.std.proofs.Common.{◌≡◌, ℕ, ◌≤◌, List, [], ◌∷◌, ◌++◌, length, drop, get_or, Some, None, refl, ap, sym, ◌∙◌, arith}
use Rattle.cap_schedule.specs.Several.{one_before}
use Rattle.cap_schedule.proofs.Several.{onto, onto_push}
use Rattle.cap_schedule.specs.Hex.{hex_byte, hex_bytes}

pub two_digits : (text : List ℕ) → 2 ≤ length text → hex_bytes text ≡ one_before (hex_byte (get_or text 0 0) (get_or text 1 0)) (hex_bytes (drop 2 text))
two_digits [] n = absurd (omega arith)
two_digits (a ∷ []) n = absurd (omega arith)
two_digits (a ∷ b ∷ more) n = refl

pub no_bytes : (text : List ℕ) → length text ≡ 1 → hex_bytes text ≡ None
no_bytes [] n = absurd (omega arith)
no_bytes (a ∷ []) n = refl
no_bytes (a ∷ b ∷ more) n = absurd (omega arith)

pub all_bytes : (text : List ℕ) → length text ≡ 0 → hex_bytes text ≡ Some []
all_bytes [] n = refl
all_bytes (a ∷ more) n = absurd (omega arith)

-- one byte more was read
pub next_byte : (read new text rest back : List ℕ) (b : ℕ) → onto read (hex_bytes rest) ≡ hex_bytes text → 2 ≤ length rest
    → hex_byte (get_or rest 0 0) (get_or rest 1 0) ≡ Some b → back ≡ drop 2 rest → new ≡ read ++ b ∷ [] → onto new (hex_bytes back) ≡ hex_bytes text
next_byte read new text rest back b inv some e at items =
    let step : onto (read ++ b ∷ []) (hex_bytes (drop 2 rest)) ≡ hex_bytes text =
    onto_push read b (hex_bytes (drop 2 rest))
    ∙ (ap (λ o. onto read (one_before o (hex_bytes (drop 2 rest)))) (sym e) ∙ (ap (λ o. onto read o) (sym (two_digits rest some)) ∙ inv)) in
    rw (at, items) step
