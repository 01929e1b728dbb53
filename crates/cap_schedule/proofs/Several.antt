-- Several values, as far as they were read.
use Rattle.std.proofs.Common.{◌≡◌, List, [], ◌∷◌, ◌++◌, Option, Some, None, refl, ap}
use Rattle.std.proofs.lemmas.List.{append-nil}
use Rattle.cap_schedule.specs.Several.{one_before}

-- what was read, before what is to come
abbrev pub onto : {X : Type 0} → List X → Option (List X) → Option (List X)
onto read None = None
onto read (Some more) = Some (read ++ more)

push_onto : {X : Type 0} (read more : List X) (x : X) → (read ++ x ∷ []) ++ more ≡ read ++ x ∷ more
push_onto [] more x = refl
push_onto (y ∷ read) more x = ap (λ rest. y ∷ rest) (push_onto read more x)

pub onto_push : {X : Type 0} (read : List X) (x : X) (rest : Option (List X)) → onto (read ++ x ∷ []) rest ≡ onto read (one_before (Some x) rest)
onto_push read x None = refl
onto_push read x (Some more) = ap (λ all. Some all) (push_onto read more x)

pub onto_none : {X : Type 0} (rest : Option (List X)) → onto [] rest ≡ rest
onto_none None = refl
onto_none (Some more) = refl

pub onto_end : {X : Type 0} (read : List X) → onto read (Some []) ≡ Some read
onto_end read = ap (λ all. Some all) (append-nil read)
