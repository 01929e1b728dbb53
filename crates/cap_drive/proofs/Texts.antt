-- The pieces of a text.
use Rattle.std.proofs.Common.{◌≡◌, ℕ, List, ◌++◌, Result, Ok, Err, IfOk, ◌∙◌, append_assoc}

pub text_as : {S E : Type 0} (bytes : S → List ℕ) (r : Result S E) (a b : List ℕ) → a ≡ b → IfOk r (λ t. bytes t ≡ a) → IfOk r (λ t. bytes t ≡ b)
text_as bytes (Ok text) a b same is = is ∙ same
text_as bytes (Err error) a b same is = tt

pub regroup : (p d q e t z : List ℕ) → p ++ (d ++ (q ++ (e ++ (t ++ z)))) ≡ p ++ d ++ q ++ e ++ t ++ z
regroup p d q e t z = simp append_assoc
