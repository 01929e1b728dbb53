-- Pages of an image, and parts of them.
use Rattle.std.proofs.Common.{◌≡◌, inl, inr, ℕ, ◌+◌, ◌*◌, ◌-◌, ◌≤◌, true, nat_eq, List, length, take, drop, Contains, Some, Vec, sym, ◌∙◌, ap, subst, arith, take-take, ◌++◌, length-take, length-drop}
use Rattle.std.proofs.lemmas.Bool.Decides.{nat_tests}
use Rattle.std.proofs.lemmas.List.{drop-take, drop-drop}
use Rattle.std.specs.Map.{lookup}
use Rattle.std.specs.declared.alloc.Global.{Global}
use Rattle.lru.specs.LruCache.{LruCache, promoted, put_entries}
use Rattle.lru.proofs.CallerLemmas.{Contains-lookup, Contains-promoted, Contains-put_entries}
use Rattle.cap_pages.specs.Pages.{Page, IsPage, ArePages, inside}

same_key : (a b : ℕ) → nat_eq a b ≡ true → a ≡ b
same_key a b is = grind (arith, nat_tests)

-- a page that is found is one of those held
pub found_is : (pages : List Page) (number : ℕ) (page : Vec ℕ Global) (image : List ℕ) → ArePages pages image → lookup (nat_eq number) pages ≡ Some page → page.items ≡ take (length page.items) (drop (4096 * number) image)
found_is pages number page image are is =
    let found = Contains-lookup (nat_eq number) pages page is in
    are (found.0, page) found.1 ∙ ap (λ (k : ℕ). take (length page.items) (drop (4096 * k) image)) (sym (same_key number found.0 found.2))

pub promoted_are : (pages after : List Page) (number : ℕ) (image : List ℕ) → after ≡ promoted (nat_eq number) pages → ArePages pages image → ArePages after image
promoted_are pages after number image is are page there = are page (Contains-promoted (nat_eq number) pages page (subst (λ (l : List Page). Contains l page) is there))

put_is : (cache : LruCache ℕ (Vec ℕ Global)) (number : ℕ) (v : Vec ℕ Global) (image : List ℕ) (page : Page) → v.items ≡ take (length v.items) (drop (4096 * number) image) → page.1 ≡ v → page.0 ≡ number → IsPage image page
put_is cache number v image page is same key =
    ap (λ (w : Vec ℕ Global). w.items) same ∙ is ∙ ap (λ (w : Vec ℕ Global). take (length w.items) (drop (4096 * number) image)) (sym same) ∙ ap (λ (k : ℕ). take (length page.1.items) (drop (4096 * k) image)) (sym key)

pub put_are : (cache : LruCache ℕ (Vec ℕ Global)) (after : List Page) (number : ℕ) (v : Vec ℕ Global) (image : List ℕ) → after ≡ put_entries nat_eq cache number v → ArePages cache.entries image → v.items ≡ take (length v.items) (drop (4096 * number) image) → ArePages after image
put_are cache after number v image is are v_is page there =
    elim (Contains-put_entries nat_eq cache number v page (subst (λ (l : List Page). Contains l page) is there)) [
      | inl was ↦ are page was
      | inr put ↦ elim put.1 [
        | inl key ↦ put_is cache number v image page v_is put.0 key
        | inr same ↦ put_is cache number v image page v_is put.0 (sym (same_key number page.0 same.2))
      ]
    ]

-- a part of a page
pub part_of : (page : List ℕ) (n first from count : ℕ) (image : List ℕ) → page ≡ take n (drop first image) → from + count ≤ n → take count (drop from page) ≡ take count (drop (first + from) image)
part_of page n first from count image is le = ap (λ (l : List ℕ). take count (drop from l)) is ∙ inside n from count (drop first image) le ∙ ap (λ (l : List ℕ). take count l) (drop-drop from first image)

-- below a bound
pub below : (stable place at count : ℕ) (shown : List ℕ) → place ≡ at → at + count ≤ stable → take count (drop place (take stable shown)) ≡ take count (drop at shown)
below stable place at count shown is le = ap (λ (k : ℕ). take count (drop k (take stable shown))) is ∙ inside stable at count shown le

pub page_below : (stable number size : ℕ) (page shown : List ℕ) → page ≡ take size (drop (4096 * number) shown) → length page ≡ size → 4096 * number + size ≤ stable → page ≡ take (length page) (drop (4096 * number) (take stable shown))
page_below stable number size page shown is len le = is ∙ sym (inside stable (4096 * number) size shown le) ∙ ap (λ (k : ℕ). take k (drop (4096 * number) (take stable shown))) (sym len)

-- a part of a page, laid into a buffer
pub laid_is : (slice items new old : List ℕ) (done from count : ℕ) → slice ≡ items → from + count ≤ length items → take (done + length (take (from + count - from) (drop from slice))) new ≡ take done old ++ take (from + count - from) (drop from slice) → take (done + count) new ≡ take done old ++ take count (drop from items)
laid_is slice items new old done from count same le front =
    let n : from + count - from ≡ count = omega arith in
    let s : take (from + count - from) (drop from slice) ≡ take count (drop from items) = ap (λ (k : ℕ). take k (drop from slice)) n ∙ ap (λ (l : List ℕ). take count (drop from l)) same in
    let len : length (take count (drop from items)) ≡ count = omega (arith, length-take count (drop from items), length-drop from items) in
    ap (λ (k : ℕ). take (done + k) new) (sym (ap length s ∙ len)) ∙ front ∙ ap (λ (l : List ℕ). take done old ++ l) s
