-- The answers of a terminal that count, where messages arrive.
use Rattle.std.proofs.Common.{◌≡◌, ℕ, zero, suc, ◌-◌, Bool, true, false, List, [], ◌∷◌, ◌++◌, length, map, Option, Some, None, refl, sym, ◌∙◌, ap, subst}
use Rattle.std.specs.Prelude.{slice_get, ◌==◌, if◌then◌else◌}
use Rattle.std.proofs.lemmas.List.{append_assoc, map-append, length-map}
use Rattle.std.proofs.lemmas.Option.{none-some}
use Rattle.cap_msgs.specs.declared.message.Message.{Message}
use Rattle.cap_plays.specs.Turns.{nth}
use Rattle.cap_plays.specs.Plays.{places_from}
use Rattle.cap_plays.specs.Corresponds.{AreCounted}

-- what stands in a list stands there in a longer one
stays_there : {A : Type 0} (list more : List A) (place : ℕ) (x : A) → slice_get list place ≡ Some x → slice_get (list ++ more) place ≡ Some x
stays_there [] more place x there = absurd (none-some x there)
stays_there (a ∷ list) more zero x there = there
stays_there (a ∷ list) more (suc place) x there = stays_there list more place x there

head_same : {A : Type 0} (x y : A) (xs ys : List A) → x ∷ xs ≡ y ∷ ys → x ≡ y
head_same x y xs ys e = cc e

tail_same : {A : Type 0} (x y : A) (xs ys : List A) → x ∷ xs ≡ y ∷ ys → xs ≡ ys
tail_same x y xs ys e = cc e

cons_not_nil : {A : Type 0} (x : A) (xs : List A) → x ∷ xs ≡ [] → ⊥
cons_not_nil x xs e = cc e

nil_not_cons : {A : Type 0} (x : A) (xs : List A) → [] ≡ x ∷ xs → ⊥
nil_not_cons x xs e = cc e

-- messages that don't count leave those that do as they were
pub counted_still : (all more : List Message) (places : List ℕ) (answers : List Message) → AreCounted all places answers → AreCounted (all ++ more) places answers
counted_still all more [] [] are = refl
counted_still all more [] (answer ∷ answers) are = absurd (nil_not_cons _ _ are)
counted_still all more (place ∷ places) [] are = absurd (cons_not_nil _ _ are)
counted_still all more (place ∷ places) (answer ∷ answers) are =
    let here : slice_get (all ++ more) place ≡ Some answer = stays_there all more place answer (head_same _ _ _ _ are) in
    let rest : AreCounted (all ++ more) places answers = counted_still all more places answers (tail_same _ _ _ _ are) in
    ap (λ o. o ∷ map (slice_get (all ++ more)) places) here ∙ ap (λ l. Some answer ∷ l) rest

-- the element behind a list
behind_all : {A : Type 0} (list : List A) (x : A) (more : List A) → slice_get (list ++ x ∷ more) (length list) ≡ Some x
behind_all [] x more = refl
behind_all (a ∷ list) x more = behind_all list x more

length_more : {A : Type 0} (list : List A) (x : A) → length (list ++ x ∷ []) ≡ suc (length list)
length_more [] x = refl
length_more (a ∷ list) x = ap suc (length_more list x)

-- all that arrive count
new_counted : (all messages : List Message) → AreCounted (all ++ messages) (places_from (length all) messages) messages
new_counted all [] = refl
new_counted all (message ∷ messages) =
    let split : (all ++ message ∷ []) ++ messages ≡ all ++ message ∷ messages = append_assoc all (message ∷ []) messages in
    let rest : AreCounted (all ++ message ∷ messages) (places_from (suc (length all)) messages) messages =
    subst (λ l. AreCounted l (places_from (suc (length all)) messages) messages) split
    (subst (λ n. AreCounted ((all ++ message ∷ []) ++ messages) (places_from n messages) messages) (length_more all message) (new_counted (all ++ message ∷ []) messages)) in
    ap (λ o. o ∷ map (slice_get (all ++ message ∷ messages)) (places_from (suc (length all)) messages)) (behind_all all message messages) ∙ ap (λ l. Some message ∷ l) rest

pub counted_more : (all messages : List Message) (places : List ℕ) (answers : List Message) → AreCounted all places answers
    → AreCounted (all ++ messages) (places ++ places_from (length all) messages) (answers ++ messages)
counted_more all messages places answers are =
    map-append (slice_get (all ++ messages)) places (places_from (length all) messages)
    ∙ (ap (λ l. l ++ map (slice_get (all ++ messages)) (places_from (length all) messages)) (counted_still all messages places answers are)
    ∙ (ap (λ l. map Some answers ++ l) (new_counted all messages)
    ∙ sym (map-append Some answers messages)))

-- as many places as answers
pub counted_length : (all : List Message) (places : List ℕ) (answers : List Message) → AreCounted all places answers → length places ≡ length answers
counted_length all places answers are = sym (length-map places (slice_get all)) ∙ (ap (λ (l : List (Option Message)). length l) are ∙ length-map answers Some)

-- at each of the places stands its answer
counted_there : (all : List Message) (places : List ℕ) (answers : List Message) (i : ℕ) (message : Message) → AreCounted all places answers → slice_get answers i ≡ Some message
    → (place : ℕ) × (slice_get places i ≡ Some place) × (slice_get all place ≡ Some message)
counted_there all [] [] i message are there = absurd (none-some message there)
counted_there all [] (answer ∷ answers) i message are there = absurd (nil_not_cons _ _ are)
counted_there all (place ∷ places) [] i message are there = absurd (cons_not_nil _ _ are)
counted_there all (place ∷ places) (answer ∷ answers) zero message are there = (place, refl, head_same _ _ _ _ are ∙ there)
counted_there all (place ∷ places) (answer ∷ answers) (suc i) message are there = counted_there all places answers i message (tail_same _ _ _ _ are) there

counted_past : (all : List Message) (places : List ℕ) (answers : List Message) (i : ℕ) → AreCounted all places answers → slice_get answers i ≡ None → slice_get places i ≡ None
counted_past all [] answers i are past = refl
counted_past all (place ∷ places) [] i are past = absurd (cons_not_nil _ _ are)
counted_past all (place ∷ places) (answer ∷ answers) zero are past = absurd (none-some answer (sym past))
counted_past all (place ∷ places) (answer ∷ answers) (suc i) are past = counted_past all places answers i (tail_same _ _ _ _ are) past

-- the answer with this number, counted from 1
pub counted_nth : (all : List Message) (places : List ℕ) (answers : List Message) (k : ℕ) (message : Message) → AreCounted all places answers → nth answers k ≡ Some message
    → (place : ℕ) × (nth places k ≡ Some place) × (slice_get all place ≡ Some message)
counted_nth all places answers k message are there = by_zero (k == 0) there
  where
    by_zero : (b : Bool) → (if b then None else slice_get answers (k - 1)) ≡ Some message → (place : ℕ) × ((if b then None else slice_get places (k - 1)) ≡ Some place) × (slice_get all place ≡ Some message)
    by_zero true there = absurd (none-some message there)
    by_zero false there = counted_there all places answers (k - 1) message are there

-- there is none
pub counted_nth_past : (all : List Message) (places : List ℕ) (answers : List Message) (k : ℕ) → AreCounted all places answers → nth answers k ≡ None → nth places k ≡ None
counted_nth_past all places answers k are past = by_zero (k == 0) past
  where
    by_zero : (b : Bool) → (if b then None else slice_get answers (k - 1)) ≡ None → (if b then None else slice_get places (k - 1)) ≡ None
    by_zero true past = refl
    by_zero false past = counted_past all places answers (k - 1) are past
