-- Lists of connections: what their places hold, and what taking and putting changes.
use Rattle.std.proofs.Common.{◌≡◌, ◌≢◌, inl, inr, ℕ, zero, suc, ◌+◌, ◌<◌, ◌≤◌, Bool, true, false, List, [], ◌∷◌, ◌++◌, length, take, drop, map, get_or, set, Option, Some, None, refl, sym, ap, ◌∙◌, arith, add-zero, length-append, Vec, Global}
use Rattle.std.specs.Prelude.{is_some, slice_get}
use Rattle.std.proofs.lemmas.Bool.{false≢true, cases_lt}
use Rattle.std.proofs.Math.Seq.{take-add}
use Rattle.std.proofs.lemmas.List.{append-nil, length-map, length-take-le, get_or-set_same, get_or-set_other, map-set, map_push, get_or-map, get_or_past, drop_more, drop_all, drop-set-lt, take_more_set, take-append-drop, drop-drop}
use Rattle.cap_link.specs.Lines.{Talk, Opens, Exchanges, talks, puts_of}
use Rattle.cap_link.specs.Pieces.{lists_of, piece, talks_from, one_if, line_of, told_of}

abbrev pub items_of : Vec ℕ Global → List ℕ
items_of v = v.items

pub lists-length : (xs : List (Vec ℕ Global)) → length (lists_of xs) ≡ length xs
lists-length xs = length-map xs items_of

pub piece_there : (xs : List (Vec ℕ Global)) (i : ℕ) (d : Vec ℕ Global) → i < length xs → piece (lists_of xs) i ≡ items_of (get_or xs i d)
piece_there xs i d h = get_or-map items_of xs i d [] h

pub piece_past : (xs : List (Vec ℕ Global)) (i : ℕ) → length xs ≤ i → piece (lists_of xs) i ≡ []
piece_past xs i h = get_or_past (lists_of xs) i [] (rw length-map h)

pub lists-set : (xs : List (Vec ℕ Global)) (i : ℕ) (v : Vec ℕ Global) → lists_of (set xs i v) ≡ set (lists_of xs) i (items_of v)
lists-set xs i v = map-set items_of xs i v

pub piece_same : (xs : List (Vec ℕ Global)) (i : ℕ) (v : Vec ℕ Global) → i < length xs → piece (lists_of (set xs i v)) i ≡ items_of v
piece_same xs i v h = ap (λ l. piece l i) (lists-set xs i v) ∙ get_or-set_same (lists_of xs) i (items_of v) [] (rw length-map h)

pub piece_other : (xs : List (Vec ℕ Global)) (i k : ℕ) (v : Vec ℕ Global) → k < i → piece (lists_of (set xs i v)) k ≡ piece (lists_of xs) k
piece_other xs i k v h = ap (λ l. piece l k) (lists-set xs i v) ∙ get_or-set_other (lists_of xs) i k (items_of v) [] (λ e. absurd (omega arith))

nothing_more : (lists : List (List ℕ)) (k : ℕ) → piece (lists ++ [] ∷ []) k ≡ piece lists k
nothing_more [] zero = refl
nothing_more [] (suc k) = refl
nothing_more (bytes ∷ lists) zero = refl
nothing_more (bytes ∷ lists) (suc k) = nothing_more lists k

-- a list without bytes at the end changes no place
pub piece_push : (xs : List (Vec ℕ Global)) (v : Vec ℕ Global) (k : ℕ) → v.items ≡ [] → piece (lists_of (xs ++ v ∷ [])) k ≡ piece (lists_of xs) k
piece_push xs v k e =
    ap (λ l. piece l k) (map_push items_of xs v ∙ ap (λ (bytes : List ℕ). lists_of xs ++ bytes ∷ []) e) ∙ nothing_more (lists_of xs) k

piece-drop : (puts : List (List ℕ)) (k : ℕ) → piece (drop 1 puts) k ≡ piece puts (suc k)
piece-drop [] k = refl
piece-drop (put ∷ puts) k = refl

-- one connection more has ended
talks_push : (all : List (List ℕ)) (taken : List ℕ) (puts : List (List ℕ)) (n : ℕ) → length all ≡ n
    → talks_from (all ++ taken ∷ []) puts ≡ talks_from all puts ++ record { taken = taken; put = piece puts n } ∷ []
talks_push [] taken puts n e = ap (λ (k : ℕ). let t : Talk = record { taken = taken; put = piece puts k } in t ∷ []) e
talks_push (first ∷ all) taken puts n e =
    ap (λ more. record { taken = first; put = piece puts 0 } ∷ more)
    (talks_push all taken (drop 1 puts) (length all) refl
    ∙ ap (λ (put : List ℕ). talks_from all (drop 1 puts) ++ (let t : Talk = record { taken = taken; put = put } in t) ∷ []) (piece-drop puts (length all) ∙ ap (piece puts) e))

-- puts that are the same where connections have ended
talks_same : (all puts others : List (List ℕ)) → ((k : ℕ) → k < length all → piece puts k ≡ piece others k) → talks_from all puts ≡ talks_from all others
talks_same [] puts others h = refl
talks_same (first ∷ all) puts others h = λ i. record { taken = first; put = h 0 (omega arith) i } ∷ talks_same all (drop 1 puts) (drop 1 others) (λ k lt. piece-drop puts k ∙ (h (suc k) (omega arith) ∙ sym (piece-drop others k))) i

-- the open connection ends
pub leaves : (all puts : List (List ℕ)) (n : ℕ) (b : Bool) (at : ℕ) → is_some (line_of b (piece all n) at (piece puts n)) ≡ true → n + one_if b ≤ length all
    → told_of (set all n (take at (piece all n))) puts (n + 1) false 0
    ≡ record { waiting = (told_of all puts n b at).waiting; ended = talks (told_of all puts n b at); current = None }
leaves all puts n false at e h = absurd (false≢true e)
leaves all puts n true at e h =
    let lt : n < length all = omega arith in
    let line : Talk = record { taken = take at (piece all n); put = piece puts n } in
    let now : talks_from (take (n + 1) (set all n (take at (piece all n)))) puts ≡ talks_from (take n all) puts ++ line ∷ []
    = ap (λ l. talks_from l puts) (take_more_set all n (take at (piece all n)) lt) ∙ talks_push (take n all) (take at (piece all n)) puts n (length-take-le n all (omega arith)) in
    let left : drop (n + 1 + 0) (set all n (take at (piece all n))) ≡ drop (n + 1) all
    = ap (λ k. drop k (set all n (take at (piece all n)))) (add-zero (n + 1)) ∙ drop-set-lt (n + 1) all n (take at (piece all n)) (omega arith) in
    λ i. record { waiting = left i; ended = now i; current = None }

-- the first connection left is opened
pub enters : (all puts : List (List ℕ)) (n : ℕ) (b : Bool) (at : ℕ) → ((told_of all puts n b at).waiting ≢ []) → (told_of all puts n b at).current ≡ None
    → length puts ≤ n + one_if b → Opens (told_of all puts n b at) (told_of all puts n true 0)
enters all puts n true at left none size = absurd (let e : is_some (told_of all puts n true at).current ≡ false = ap is_some none in false≢true (sym e))
enters all puts n false at left none size =
    let first : drop (n + 0) all ≡ drop n all = ap (λ k. drop k all) (add-zero n) in
    elim (cases_lt n (length all)) [
      | inl lt ↦ record {
        bytes = piece all n;
        more = drop (n + 1) all;
        first = first ∙ drop_more all n [] lt;
        opened = λ i. record {
          waiting = drop (n + 1) all;
          ended = sym (append-nil (talks_from (take n all) puts)) i;
          current = Some (record { left = piece all n; talk = record { taken = []; put = get_or_past puts n [] (omega arith) i } });
        };
      }
      | inr ge ↦ absurd (left (first ∙ drop_all n all ge))
    ]

-- bytes are taken
pub takes : (all puts : List (List ℕ)) (n : ℕ) (b : Bool) (at m : ℕ) (taken : List ℕ) → is_some (line_of b (piece all n) at (piece puts n)) ≡ true
    → taken ≡ take m (drop at (piece all n)) → Exchanges taken [] (told_of all puts n b at) (told_of all puts n b (at + m))
takes all puts n false at m taken e is = absurd (false≢true e)
takes all puts n true at m taken e is =
    let bytes : List ℕ = piece all n in
    record {
      before = record { left = drop at bytes; talk = record { taken = take at bytes; put = piece puts n } };
      rest = drop (at + m) bytes;
      is_open = refl;
      left = sym (take-append-drop m (drop at bytes)) ∙ (ap (λ l. take m (drop at bytes) ++ l) (drop-drop m at bytes) ∙ ap (λ l. l ++ drop (at + m) bytes) (sym is));
      now = λ i. record {
        waiting = drop (n + 1) all;
        ended = talks_from (take n all) puts;
        current = Some (record {
          left = drop (at + m) bytes;
          talk = record { taken = (take-add at m bytes ∙ ap (λ l. take at bytes ++ l) (sym is)) i; put = sym (append-nil (piece puts n)) i };
        });
      };
    }

-- bytes are put
pub puts_more : (all puts others : List (List ℕ)) (n : ℕ) (b : Bool) (at : ℕ) (bytes : List ℕ) → is_some (line_of b (piece all n) at (piece puts n)) ≡ true
    → n + one_if b ≤ length all → ((k : ℕ) → k < n → piece others k ≡ piece puts k) → piece others n ≡ piece puts n ++ bytes
    → Exchanges [] bytes (told_of all puts n b at) (told_of all others n b at)
puts_more all puts others n false at bytes e size same there = absurd (false≢true e)
puts_more all puts others n true at bytes e size same there =
    let fits : length (take n all) ≡ n = length-take-le n all (omega arith) in
    let line : List ℕ = piece all n in
    record {
      before = record { left = drop at line; talk = record { taken = take at line; put = piece puts n } };
      rest = drop at line;
      is_open = refl;
      left = refl;
      now = λ i. record {
        waiting = drop (n + 1) all;
        ended = talks_same (take n all) others puts (λ k lt. same k (omega arith)) i;
        current = Some (record { left = drop at line; talk = record { taken = sym (append-nil (take at line)) i; put = there i } });
      };
    }

-- nothing is put
pub puts_none : (all puts others : List (List ℕ)) (n : ℕ) (b : Bool) (at : ℕ) → n + one_if b ≤ length all
    → ((k : ℕ) → k < n → piece others k ≡ piece puts k) → piece others n ≡ piece puts n → told_of all others n b at ≡ told_of all puts n b at
puts_none all puts others n b at size same there =
    let fits : length (take n all) ≡ n = length-take-le n all (omega arith) in
    λ i. record {
      waiting = drop (n + one_if b) all;
      ended = talks_same (take n all) others puts (λ k lt. same k (omega arith)) i;
      current = line_of b (piece all n) at (there i);
    }

abbrev pub put_in : Talk → List ℕ
put_in talk = talk.put

puts-length : (all puts : List (List ℕ)) → length (map put_in (talks_from all puts)) ≡ length all
puts-length [] puts = refl
puts-length (first ∷ all) puts = omega (arith, puts-length all (drop 1 puts))

puts-get : (all puts : List (List ℕ)) (i : ℕ) → i < length all → slice_get (map put_in (talks_from all puts)) i ≡ Some (piece puts i)
puts-get [] puts i lt = absurd (omega arith)
puts-get (first ∷ all) puts zero lt = refl
puts-get (first ∷ all) puts (suc i) lt = puts-get all (drop 1 puts) i (omega arith) ∙ ap (λ (put : List ℕ). let s : Option (List ℕ) = Some put in s) (piece-drop puts i)

-- those that were opened
abbrev opened : List (List ℕ) → ℕ → Bool → ℕ → List (List ℕ)
opened all n false at = take n all
opened all n true at = take n all ++ take at (piece all n) ∷ []

opened-length : (all : List (List ℕ)) (n : ℕ) (b : Bool) (at : ℕ) → n + one_if b ≤ length all → length (opened all n b at) ≡ n + one_if b
opened-length all n false at h = omega (arith, length-take-le n all (omega arith))
opened-length all n true at h = omega (arith, length-take-le n all (omega arith), length-append (take n all) (take at (piece all n) ∷ []))

told_talks : (all puts : List (List ℕ)) (n : ℕ) (b : Bool) (at : ℕ) → n + one_if b ≤ length all → talks (told_of all puts n b at) ≡ talks_from (opened all n b at) puts
told_talks all puts n false at h = append-nil (talks_from (take n all) puts)
told_talks all puts n true at h = sym (talks_push (take n all) (take at (piece all n)) puts n (length-take-le n all (omega arith)))

pub told_length : (all puts : List (List ℕ)) (n : ℕ) (b : Bool) (at : ℕ) → n + one_if b ≤ length all → length (puts_of (told_of all puts n b at)) ≡ n + one_if b
told_length all puts n b at h =
    ap (λ (l : List Talk). length (map put_in l)) (told_talks all puts n b at h) ∙ (puts-length (opened all n b at) puts ∙ opened-length all n b at h)

pub told_get : (all puts : List (List ℕ)) (n : ℕ) (b : Bool) (at i : ℕ) → n + one_if b ≤ length all → i < n + one_if b
    → slice_get (puts_of (told_of all puts n b at)) i ≡ Some (piece puts i)
told_get all puts n b at i h lt =
    ap (λ (l : List Talk). slice_get (map put_in l) i) (told_talks all puts n b at h)
    ∙ puts-get (opened all n b at) puts i (omega (arith, opened-length all n b at h))
