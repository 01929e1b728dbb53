-- The codes of a list, in their order.
use Rattle.std.specs.Prelude.{ℕ, zero, suc, ◌+◌, Bool, true, nat_le, List, [], ◌∷◌, map, codes}
use Rattle.std.specs.Borrow.{Bor}
use Rattle.cap_leaf.specs.declared.kinds.CodeList.{CodeList}
use Rattle.cap_leaf.specs.declared.kinds.CodeList.TheVariants.{Response, Reason, Wanted, AnySet, Act, Protocol, Function}
use Rattle.cap_leaf.specs.declared.kinds.Kind.{Kind}
use Rattle.cap_leaf.specs.declared.kinds.Kind.TheVariants.{Caaa001, Caaa002, Caaa003, Caaa004, Caaa005, Caaa006, Caaa007, Caaa008, Caaa009, Caaa010, Caaa011, Caaa012, Caaa013, Caaa014, Caaa015, Catm001, Catm002, Catm003, Catm004}

-- the code of a message's function; a catm message has none
abbrev pub function_codes : Kind → List (List ℕ)
function_codes Caaa001 = codes "AUTQ" ∷ []
function_codes Caaa002 = codes "AUTP" ∷ []
function_codes Caaa003 = codes "CMPV" ∷ []
function_codes Caaa004 = codes "CMPK" ∷ []
function_codes Caaa005 = codes "CCAQ" ∷ []
function_codes Caaa006 = codes "CCAP" ∷ []
function_codes Caaa007 = codes "CCAV" ∷ []
function_codes Caaa008 = codes "CCAK" ∷ []
function_codes Caaa009 = codes "RCLQ" ∷ []
function_codes Caaa010 = codes "RCLP" ∷ []
function_codes Caaa011 = codes "BTCQ" ∷ []
function_codes Caaa012 = codes "BTCP" ∷ []
function_codes Caaa013 = codes "DGNQ" ∷ []
function_codes Caaa014 = codes "DGNP" ∷ []
function_codes Caaa015 = codes "RJCT" ∷ []
function_codes Catm001 = []
function_codes Catm002 = []
function_codes Catm003 = []
function_codes Catm004 = []

-- a digit alone
abbrev pub protocol_codes : ℕ → List (List ℕ)
protocol_codes d = ((48 + d) ∷ []) ∷ []

abbrev pub codes_of : CodeList → List (List ℕ)
codes_of Response = codes "APPR" ∷ codes "DECL" ∷ codes "PART" ∷ codes "TECH" ∷ []
codes_of Reason = codes "UNPR" ∷ codes "IMSG" ∷ codes "PARS" ∷ codes "SECU" ∷ codes "INTP" ∷ codes "RCPP" ∷ codes "DPMG" ∷ codes "VERS" ∷ codes "MSGT" ∷ []
codes_of Wanted = codes "AQPR" ∷ codes "MGTP" ∷ []
codes_of AnySet = codes "AQPR" ∷ codes "MGTP" ∷ codes "STRP" ∷ []
codes_of Act = codes "DWNL" ∷ codes "UPLD" ∷ []
codes_of (Protocol d) = protocol_codes d
codes_of (Function k) = function_codes k

-- a list in its range: a protocol is a digit
abbrev pub is_list : CodeList → Bool
is_list Response = true
is_list Reason = true
is_list Wanted = true
is_list AnySet = true
is_list Act = true
is_list (Protocol d) = nat_le d 9
is_list (Function k) = true

-- what texts say
abbrev pub texts : List (Bor (List ℕ)) → List (List ℕ)
texts ts = map (λ t. t.now) ts

-- the item at a place of a list of texts, and nothing past its end
abbrev pub text_at : List (List ℕ) → ℕ → List ℕ
text_at [] at = []
text_at (t ∷ ts) zero = t
text_at (t ∷ ts) (suc at) = text_at ts at

-- the code of a list at a place
abbrev pub code_at : CodeList → ℕ → List ℕ
code_at l at = text_at (codes_of l) at
