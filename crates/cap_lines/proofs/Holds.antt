-- What a search of the bytes that are held tells of them.
use Rattle.std.proofs.Common.{◌≡◌, ℕ, ◌+◌, ◌-◌, ◌<◌, ◌≤◌, Bool, true, false, List, [], ◌∷◌, ◌++◌, length, take, drop, Option, Some, None, position, refl, ap, sym, ◌∙◌, subst, arith, cond, length-take, length-drop, slice_index_or}
use Rattle.std.specs.List.{position_from}
use Rattle.std.specs.Str.Lines.{strip_carriage_return}
use Rattle.std.proofs.lemmas.Bool.{eqb-true}
use Rattle.std.proofs.lemmas.Iterator.Adapters.{position_from-zero}
use Rattle.std.proofs.lemmas.List.{take-append-drop, take-take, drop-drop, drop_more, get_or-take, take_rest}
use Rattle.std.proofs.lemmas.List.Elements.{All-nil, All-cons, All-append}
use Rattle.std.proofs.lemmas.List.Quantifiers.{position-Some}
use Rattle.std.proofs.Math.Seq.{take-add}
use Rattle.cap_lines.specs.Lines.{is_feed}
use Rattle.cap_lines.specs.Holding.{HasNoFeed, IsHolding, SplitsLine, between}

abbrev NoFeed : ℕ → Type 0
NoFeed b = is_feed b ≡ false

none_step : (i x : ℕ) (xs : List ℕ) (b : Bool) → is_feed x ≡ b → cond b (Some i) (position_from is_feed (i + 1) xs) ≡ None
    → (position_from is_feed (i + 1) xs ≡ None → HasNoFeed xs) → HasNoFeed (x ∷ xs)
none_step i x xs true e h later = absurd (cc (h))
none_step i x xs false e h later = All-cons NoFeed x xs e (later h)

none_from : (i : ℕ) (xs : List ℕ) → position_from is_feed i xs ≡ None → HasNoFeed xs
none_from i [] h = All-nil NoFeed
none_from i (x ∷ xs) h = none_step i x xs (is_feed x) refl h (none_from (i + 1) xs)

-- the search found nothing
no_feed : (xs : List ℕ) → position is_feed xs ≡ None → HasNoFeed xs
no_feed xs h = none_from 0 xs (sym (position_from-zero is_feed xs) ∙ h)

-- the search found a line feed
none_before : (xs : List ℕ) (at : ℕ) → position is_feed xs ≡ Some at → HasNoFeed (take at xs)
none_before xs at h k d lt =
    let found = position-Some is_feed xs at d h in
    let near : k < at = omega (arith, lt, length-take at xs) in
    ap is_feed (get_or-take at xs k d near) ∙ found.2 k near

feed_there : (xs : List ℕ) (at : ℕ) → position is_feed xs ≡ Some at → drop at xs ≡ 10 ∷ drop (at + 1) xs
feed_there xs at h =
    let found = position-Some is_feed xs at 0 h in
    drop_more xs at 0 found.0 ∙ ap (λ (b : ℕ). b ∷ drop (at + 1) xs) (eqb-true (slice_index_or xs at 0) 10 found.1)

-- the bytes behind a place, from another on
searched_on : (start searched : ℕ) (buffer : List ℕ) → start ≤ searched → drop (searched - start) (drop start buffer) ≡ drop searched buffer
searched_on start searched buffer le =
    drop-drop (searched - start) start buffer ∙ ap (λ (n : ℕ). drop n buffer) (omega (arith, le))

module _ (buffer : List ℕ) (from to start searched : ℕ) (h : IsHolding buffer from to start searched) where
  whole : drop start buffer ≡ between start searched buffer ++ drop searched buffer
  whole =
      sym (take-append-drop (searched - start) (drop start buffer))
      ∙ ap (λ (l : List ℕ). between start searched buffer ++ l) (searched_on start searched buffer h.begun)

  pub rest_none : position is_feed (drop searched buffer) ≡ None → HasNoFeed (drop start buffer)
  rest_none none =
      subst HasNoFeed (sym whole) (All-append NoFeed (between start searched buffer) (drop searched buffer) h.none (no_feed (drop searched buffer) none))

  -- everything was searched
  pub all_searched : (len : ℕ) → len ≡ length buffer → position is_feed (drop searched buffer) ≡ None → IsHolding buffer from to start len
  all_searched len is none =
      let all : between start len buffer ≡ drop start buffer = ap (λ (n : ℕ). between start n buffer) is ∙ take_rest buffer start in
      record {
        line = h.line;
        inside = h.inside;
        begun = omega (arith, is, h.begun, h.reach);
        reach = omega (arith, is);
        none = subst HasNoFeed (sym all) (rest_none none);
      }

  module _ (at : ℕ) (found : position is_feed (drop searched buffer) ≡ Some at) where
    part_is : between start (searched + at) buffer ≡ between start searched buffer ++ take at (drop searched buffer)
    part_is =
        let count : searched + at - start ≡ (searched - start) + at = omega (arith, h.begun) in
        ap (λ (n : ℕ). take n (drop start buffer)) count
        ∙ (take-add (searched - start) at (drop start buffer)
        ∙ ap (λ (l : List ℕ). between start searched buffer ++ take at l) (searched_on start searched buffer h.begun))

    part_none : HasNoFeed (between start (searched + at) buffer)
    part_none =
        subst HasNoFeed (sym part_is)
        (All-append NoFeed (between start searched buffer) (take at (drop searched buffer)) h.none (none_before (drop searched buffer) at found))

    behind : drop (searched + at) buffer ≡ 10 ∷ drop (searched + at + 1) buffer
    behind =
        sym (drop-drop at searched buffer)
        ∙ (feed_there (drop searched buffer) at found
        ∙ ap (λ (l : List ℕ). 10 ∷ l) (drop-drop (at + 1) searched buffer ∙ ap (λ (n : ℕ). drop n buffer) (omega arith)))

    parted : drop start buffer ≡ between start (searched + at) buffer ++ 10 ∷ drop (searched + at + 1) buffer
    parted =
        let le : start ≤ searched + at = omega (arith, h.begun) in
        sym (take-append-drop (searched + at - start) (drop start buffer))
        ∙ ap (λ (l : List ℕ). between start (searched + at) buffer ++ l) (searched_on start (searched + at) buffer le ∙ behind)

    pub splits : (line : List ℕ) → line ≡ strip_carriage_return (between start (searched + at) buffer)
        → SplitsLine (drop start buffer) line (drop (searched + at + 1) buffer)
    splits line is = (between start (searched + at) buffer, part_none, parted, is)

    pub place_fits : searched + at < length buffer
    place_fits =
        let f = position-Some is_feed (drop searched buffer) at 0 found in
        omega (arith, f.0, length-drop searched buffer, h.reach)

-- what a search behind a place found, and what a line is without its carriage return, in the words of the buffer
pub searched_in : (shown buffer : List ℕ) (searched : ℕ) (place : Option ℕ) → shown ≡ buffer
    → place ≡ position is_feed (take (length shown - searched) (drop searched shown)) → place ≡ position is_feed (drop searched buffer)
searched_in shown buffer searched place same is =
    is
    ∙ (ap (λ (l : List ℕ). position is_feed l) (take_rest shown searched)
    ∙ ap (λ (l : List ℕ). position is_feed (drop searched l)) same)

pub stripped_in : (shown buffer : List ℕ) (start end n : ℕ) → shown ≡ buffer → take n (between start end shown) ≡ strip_carriage_return (between start end shown)
    → n ≤ length (between start end shown) → between start (start + n) buffer ≡ strip_carriage_return (between start end buffer)
stripped_in shown buffer start end n same is fits =
    let short : n ≤ end - start = omega (arith, fits, length-take (end - start) (drop start shown)) in
    let count : start + n - start ≡ n = omega arith in
    let shown_is : between start (start + n) shown ≡ strip_carriage_return (between start end shown) =
    ap (λ (k : ℕ). take k (drop start shown)) count ∙ (sym (take-take n (end - start) (drop start shown) short) ∙ is) in
    subst (λ (l : List ℕ). between start (start + n) l ≡ strip_carriage_return (between start end l)) same shown_is
