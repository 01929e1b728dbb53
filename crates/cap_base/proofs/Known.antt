-- Known bytes that stayed before a read, and the pieces that a source in memory gives.
use Rattle.std.proofs.Common.{◌≡◌, ℕ, ◌+◌, ◌<◌, min, List, [], ◌++◌, length, take, drop, Option, Some, None, Result, Ok, Err, sym, ap, ◌∙◌, append_assoc, arith}
use Rattle.std.specs.Io.KnownBytes.{Keeps, Consumes, ReadConsumes, Appends}
use Rattle.std.proofs.lemmas.List.{append-nil, take-append-drop}
use Rattle.std.proofs.lemmas.Grind.{common_steps}

keeps_keeps : (old mid new : Option (List ℕ)) → Keeps old mid → Keeps mid new → Keeps old new
keeps_keeps None mid new k h = tt
keeps_keeps (Some xs) None new k h = absurd k
keeps_keeps (Some xs) (Some ys) None k h = absurd h
keeps_keeps (Some xs) (Some ys) (Some zs) k h = cc

keeps_consumes : (old mid new : Option (List ℕ)) (bs : List ℕ) → Keeps old mid → Consumes mid new bs → Consumes old new bs
keeps_consumes None mid new bs k h = tt
keeps_consumes (Some xs) None new bs k h = absurd k
keeps_consumes (Some xs) (Some ys) None bs k h = absurd h
keeps_consumes (Some xs) (Some ys) (Some zs) bs k h = cc

-- a read after which nothing was lost before
pub keeps_reads : {E : Type 0} (old mid new : Option (List ℕ)) (r : Result ℕ E) (buf : List ℕ) → Keeps old mid → ReadConsumes mid new r buf → ReadConsumes old new r buf
keeps_reads old mid new (Ok n) buf k h = (keeps_consumes old mid new (take n buf) k h.0, h.1)
keeps_reads old mid new (Err e) buf k h = keeps_keeps old mid new k h

pub piece_and_rest : (bytes piece : List ℕ) (at n m : ℕ) → piece ≡ take n (drop at bytes) → n ≡ min (length (drop at bytes)) m
    → (drop at bytes ≡ piece ++ drop (at + n) bytes) × (n ≡ 0 → 0 < m → drop (at + n) bytes ≡ [])
piece_and_rest bytes piece at n m h e = (grind (arith, common_steps, take-append-drop n (drop at bytes)), λ z p. grind (arith, common_steps))

pub written_more : (bytes front rest : List ℕ) (n : ℕ) → front ++ rest ≡ bytes → (front ++ take n rest) ++ drop n rest ≡ bytes
written_more bytes front rest n h = append_assoc front (take n rest) (drop n rest) ∙ (ap (λ w. front ++ w) (take-append-drop n rest) ∙ h)

pub appends_none : (known : Option (List ℕ)) → Appends known known []
appends_none None = tt
appends_none (Some xs) = sym (append-nil xs)

pub appends_more : (old mid new : Option (List ℕ)) (xs ys : List ℕ) → Appends old mid xs → Appends mid new ys → Appends old new (xs ++ ys)
appends_more None mid new xs ys a b = tt
appends_more (Some os) None new xs ys a b = absurd a
appends_more (Some os) (Some ms) None xs ys a b = absurd b
appends_more (Some os) (Some ms) (Some ns) xs ys a b = b ∙ (ap (λ w. w ++ ys) a ∙ append_assoc os xs ys)

pub appends_kept : (old mid new : Option (List ℕ)) (xs : List ℕ) → Appends old mid xs → Keeps mid new → Appends old new xs
appends_kept None mid new xs a b = tt
appends_kept (Some os) None new xs a b = absurd a
appends_kept (Some os) (Some ms) None xs a b = absurd b
appends_kept (Some os) (Some ms) (Some ns) xs a b = b ∙ a
