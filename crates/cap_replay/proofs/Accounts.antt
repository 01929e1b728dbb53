-- The accounts of a made schedule are spelled as accounts are.
use Rattle.std.proofs.Common.{◌≡◌, ℕ, zero, suc, ◌+◌, ◌/◌, ◌%◌, ◌<◌, true, List, [], ◌∷◌, map, Option, Some, None, refl, ap, ◌∙◌, arith}
use Rattle.std.specs.List.{list_all}
use Rattle.std.specs.Char.{is_ascii_digit}
use Rattle.std.proofs.lemmas.Bool.{and_from, cond-true}
use Rattle.cap_base.specs.Text.{is_account, account_of}
use Rattle.cap_replay.specs.Generator.{powers, digit_at, account_of_sale}

digit_is : (d : ℕ) → d < 10 → is_ascii_digit (48 + d) ≡ true
digit_is zero small = refl
digit_is (suc zero) small = refl
digit_is (suc (suc zero)) small = refl
digit_is (suc (suc (suc zero))) small = refl
digit_is (suc (suc (suc (suc zero)))) small = refl
digit_is (suc (suc (suc (suc (suc zero))))) small = refl
digit_is (suc (suc (suc (suc (suc (suc zero)))))) small = refl
digit_is (suc (suc (suc (suc (suc (suc (suc zero))))))) small = refl
digit_is (suc (suc (suc (suc (suc (suc (suc (suc zero)))))))) small = refl
digit_is (suc (suc (suc (suc (suc (suc (suc (suc (suc zero))))))))) small = refl
digit_is (suc (suc (suc (suc (suc (suc (suc (suc (suc (suc d)))))))))) small = let never : ⊥ = omega (arith, small) in absurd never

last_digit : (x : ℕ) → x % 10 < 10
last_digit x = omega arith

digits_are : (i : ℕ) (ps : List ℕ) → list_all is_ascii_digit (map (digit_at i) ps) ≡ true
digits_are i [] = refl
digits_are i (p ∷ ps) = and_from (is_ascii_digit (digit_at i p)) (list_all is_ascii_digit (map (digit_at i) ps)) (digit_is (i / p % 10) (last_digit (i / p))) (digits_are i ps)

pub accounts_are : (i : ℕ) → is_account (account_of_sale i) ≡ true
accounts_are i = digits_are i powers

pub account_reads : (i : ℕ) (text : List ℕ) (read : Option (List ℕ)) → text ≡ account_of_sale i → read ≡ account_of text → read ≡ None → ⊥
account_reads i text read same is none =
    let some : account_of (account_of_sale i) ≡ Some (account_of_sale i) = cond-true (is_account (account_of_sale i)) _ _ (accounts_are i) in
    let found : account_of text ≡ Some (account_of_sale i) = ap account_of same ∙ some in
    cc
