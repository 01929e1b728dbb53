-- One piece more, and what a tally says of the limits.
use Rattle.std.proofs.Common.{◌≡◌, inl, inr, ℕ, ◌+◌, ◌≤◌, ◌<◌, List, ◌++◌, length, take, Option, Some, None, sym, ◌∙◌, ap, append_assoc, arith}
use Rattle.std.specs.Prelude.{fold}
use Rattle.std.specs.Str.Lines.{lines}
use Rattle.std.specs.Io.KnownBytes.{Consumes}
use Rattle.std.proofs.lemmas.List.Sums.{fold-append}
use Rattle.cap_top.specs.declared.tally.Tally.{Tally}
use Rattle.cap_top.specs.Tally.{nothing, with_byte, tally_of}
use Rattle.cap_top.specs.Limits.{IsPastLimit, IsWithin}
use Rattle.cap_top.proofs.Counting.{bytes-fold, lines-fold, bytes-tally_of, lines-tally_of}

pub consumes_more : (a b c : Option (List ℕ)) (front back : List ℕ) → Consumes a b front → Consumes b c back → Consumes a c (front ++ back)
consumes_more None b c front back x y = tt
consumes_more (Some xs) None c front back x y = absurd x
consumes_more (Some xs) (Some ys) None front back x y = absurd y
consumes_more (Some xs) (Some ys) (Some zs) front back x y = x ∙ (ap (λ (l : List ℕ). front ++ l) y ∙ sym (append_assoc front back zs))

pub consumes_none : (a b c : Option (List ℕ)) (front buf : List ℕ) (count : ℕ) → Consumes a b front → Consumes b c (take count buf) → count ≡ 0 → Consumes a c front
consumes_none None b c front buf count x y none = tt
consumes_none (Some xs) None c front buf count x y none = absurd x
consumes_none (Some xs) (Some ys) None front buf count x y none = absurd y
consumes_none (Some xs) (Some ys) (Some zs) front buf count x y none =
    let same : ys ≡ zs = y ∙ ap (λ (n : ℕ). take n buf ++ zs) none in x ∙ ap (λ (l : List ℕ). front ++ l) same

pub bytes_of : (t : Tally) (bytes : List ℕ) → t ≡ tally_of bytes → t.bytes ≡ length bytes
bytes_of t bytes e = ap (λ (u : Tally). u.bytes) e ∙ bytes-tally_of bytes

pub lines_of : (t : Tally) (bytes : List ℕ) → t ≡ tally_of bytes → t.lines ≡ length (lines bytes)
lines_of t bytes e = ap (λ (u : Tally). u.lines) e ∙ lines-tally_of bytes

pub few_lines : (t : Tally) (bytes : List ℕ) → t ≡ tally_of bytes → t.lines ≤ t.bytes
few_lines t bytes e = omega (arith, ap (λ (u : Tally). u.lines) e, bytes_of t bytes e, lines-fold nothing bytes)

pub within_limits : (t : Tally) (bytes : List ℕ) → t ≡ tally_of bytes → t.bytes ≤ 16777216 → t.lines ≤ 100000 → IsWithin bytes
within_limits t bytes e size count = record {
  size = omega (arith, bytes_of t bytes e, size);
  count = omega (arith, lines_of t bytes e, count);
}

pub past_size : (t : Tally) (bytes : List ℕ) → t ≡ tally_of bytes → 16777216 < t.bytes → IsPastLimit bytes
past_size t bytes e over = inl (omega (arith, bytes_of t bytes e, over))

pub past_lines : (t : Tally) (bytes : List ℕ) → t ≡ tally_of bytes → 100000 < t.lines → IsPastLimit bytes
past_lines t bytes e over = inr (omega (arith, lines_of t bytes e, over))

pub tally_more : (t new : Tally) (bytes piece : List ℕ) → t ≡ tally_of bytes → new ≡ fold with_byte t piece → new ≡ tally_of (bytes ++ piece)
tally_more t new bytes piece e is = is ∙ (ap (λ (u : Tally). fold with_byte u piece) e ∙ sym (fold-append with_byte nothing bytes piece))

pub bytes_more : (t new : Tally) (piece : List ℕ) → new ≡ fold with_byte t piece → new.bytes ≡ t.bytes + length piece
bytes_more t new piece is = ap (λ (u : Tally). u.bytes) is ∙ bytes-fold t piece
