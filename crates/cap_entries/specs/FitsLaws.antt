-- How logs whose items fit grow.
use Rattle.std.proofs.Common.{◌≡◌, true, List, [], ◌∷◌, ◌++◌, refl, append_assoc, append-nil}
use Rattle.std.proofs.lemmas.Bool.{and_parts, and_from}
use Rattle.cap_base.specs.declared.item.Item.{Item}
use Rattle.cap_base.specs.Fits.{fits, all_fit}

pub all_fit-append : (before items more : List Item) → all_fit before items ≡ true → all_fit (before ++ items) more ≡ true → all_fit before (items ++ more) ≡ true
all_fit-append before [] more p q = rw append-nil at q
all_fit-append before (item ∷ items) more p q =
    let parts = and_parts _ _ p in
    and_from _ _ parts.0 (all_fit-append (before ++ item ∷ []) items more parts.1 (rw append_assoc q))

pub all_fit_front : (before items more : List Item) → all_fit before (items ++ more) ≡ true → all_fit before items ≡ true
all_fit_front before [] more p = refl
all_fit_front before (item ∷ items) more p =
    let parts = and_parts _ _ p in
    and_from _ _ parts.0 (all_fit_front (before ++ item ∷ []) items more parts.1)

pub all_fit_back : (before items more : List Item) → all_fit before (items ++ more) ≡ true → all_fit (before ++ items) more ≡ true
all_fit_back before [] more p = rw append-nil p
all_fit_back before (item ∷ items) more p =
    rw append_assoc at (all_fit_back (before ++ item ∷ []) items more (and_parts (fits before item) (all_fit (before ++ item ∷ []) (items ++ more)) p).1)

-- induction along items that fit one after another
module _ (P : List Item → Type 0) (step : (before : List Item) (item : Item) → P before → fits before item ≡ true → P (before ++ item ∷ [])) where
  pub along_fits : (before items : List Item) → P before → all_fit before items ≡ true → P (before ++ items)
  along_fits before [] p q = rw append-nil p
  along_fits before (item ∷ items) p q =
      let parts = and_parts (fits before item) (all_fit (before ++ item ∷ []) items) q in
      rw append_assoc at (along_fits (before ++ item ∷ []) items (step before item p parts.0) parts.1)
