-- What marks name.
use Rattle.std.proofs.Common.{◌≡◌, ℕ, zero, suc, ◌+◌, ◌≤◌, ◌<◌, List, [], ◌∷◌, ◌++◌, length, take, drop, map, replicate, slice_get, slice_index, Option, Some, None, refl, sym, ◌∙◌, ap, arith, append_assoc, length-append, length-drop, length-take, take-append-drop, All, Bool, IsTrue}
use Rattle.std.proofs.lemmas.List.{take_at, drop_at, append-nil}
use Rattle.std.proofs.lemmas.List.Elements.{All-head, All-tail}
use Rattle.std.proofs.lemmas.Nat.{div-mul-add}
use Rattle.cap_journal.specs.File.{Reading}
use Rattle.cap_journal.specs.Group.{joined}
use Rattle.cap_pages.specs.Paged.{mark_of, gate_in, place_in, marks_of, with_read, listed}

gate_is : (gate before : ℕ) → before < 65536 → gate_in (mark_of gate before) ≡ gate
gate_is gate before lt = div-mul-add gate 65536 before lt

place_is : (gate before : ℕ) → before < 65536 → place_in (mark_of gate before) ≡ gate + 5 + before
place_is gate before lt = let g = gate_is gate before lt in omega (arith, g)

module _ {E : Type 0} (reading : Reading E) where
  -- no more entries than marks
  short_with : (o : Option (E × ℕ)) (list : List E) (n : ℕ) → length list ≤ n → length (with_read o list) ≤ suc n
  short_with None list n le = omega (arith, le)
  short_with (Some found) list n le = omega (arith, le)

  listed_short : (bytes marks : List ℕ) → length (listed reading bytes marks) ≤ length marks
  listed_short bytes [] = omega arith
  listed_short bytes (m ∷ ms) = short_with (reading (drop (place_in m) bytes)) (listed reading bytes ms) (length ms) (listed_short bytes ms)

  with_both : (o : Option (E × ℕ)) (all list list' : List E) → all ≡ list ++ list' → with_read o all ≡ with_read o list ++ list'
  with_both None all list list' is = is
  with_both (Some found) all list list' is = ap (λ (l : List E). found.0 ∷ l) is

  listed_both : (bytes ms ns : List ℕ) → listed reading bytes (ms ++ ns) ≡ listed reading bytes ms ++ listed reading bytes ns
  listed_both bytes [] ns = refl
  listed_both bytes (m ∷ ms) ns = with_both (reading (drop (place_in m) bytes)) (listed reading bytes (ms ++ ns)) (listed reading bytes ms) (listed reading bytes ns) (listed_both bytes ms ns)

  -- each mark is read, or the list is shorter
  when_all : (o : Option (E × ℕ)) (list : List E) (n : ℕ) → length list ≤ n → length (with_read o list) ≡ suc n → (found : E × ℕ) × (o ≡ Some found) × (length list ≡ n)
  when_all None list n le all = absurd (omega (arith, all, le))
  when_all (Some found) list n le all = (found, refl, omega (arith, all))

  -- the value of the record at a mark is in the list
  pub listed_at : (bytes marks : List ℕ) (i : ℕ) (e : E) (size : ℕ) → length (listed reading bytes marks) ≡ length marks → i < length marks → reading (drop (place_in (slice_index marks i)) bytes) ≡ Some (e, size) → slice_get (listed reading bytes marks) i ≡ Some e
  listed_at bytes [] i e size all lt is = absurd (omega arith)
  listed_at bytes (m ∷ ms) zero e size all lt is = ap (λ (o : Option (E × ℕ)). slice_get (with_read o (listed reading bytes ms)) zero) is
  listed_at bytes (m ∷ ms) (suc i) e size all lt is =
      let first = when_all (reading (drop (place_in m) bytes)) (listed reading bytes ms) (length ms) (listed_short bytes ms) all in
      ap (λ (o : Option (E × ℕ)). slice_get (with_read o (listed reading bytes ms)) (suc i)) first.1 ∙ listed_at bytes ms i e size first.2 (omega (arith, lt)) is

  module _ (longer : (bytes rest : List ℕ) (e : E) (size : ℕ) → reading bytes ≡ Some (e, size) → reading (bytes ++ rest) ≡ Some (e, size)) (some : (bytes : List ℕ) (e : E) (size : ℕ) → reading bytes ≡ Some (e, size) → 1 ≤ length bytes) where
    drop_front : (n : ℕ) (bytes rest : List ℕ) → n ≤ length bytes → drop n (bytes ++ rest) ≡ drop n bytes ++ rest
    drop_front zero bytes rest le = refl
    drop_front (suc n) [] rest le = absurd (omega arith)
    drop_front (suc n) (b ∷ bytes) rest le = drop_front n bytes rest (omega arith)

    -- what is read in front of further bytes
    pub reads_before : (bytes rest : List ℕ) (n : ℕ) (e : E) (size : ℕ) → reading (drop n bytes) ≡ Some (e, size) → reading (drop n (bytes ++ rest)) ≡ Some (e, size)
    reads_before bytes rest n e size is =
        let there = some (drop n bytes) e size is in
        ap reading (drop_front n bytes rest (omega (arith, there, length-drop n bytes))) ∙ longer (drop n bytes) rest e size is

    -- further bytes change nothing of what is read
    pub listed_before : (bytes rest marks : List ℕ) → length (listed reading bytes marks) ≡ length marks → listed reading (bytes ++ rest) marks ≡ listed reading bytes marks
    listed_before bytes rest [] all = refl
    listed_before bytes rest (m ∷ ms) all =
        let first = when_all (reading (drop (place_in m) bytes)) (listed reading bytes ms) (length ms) (listed_short bytes ms) all in
        ap (λ (o : Option (E × ℕ)). with_read o (listed reading (bytes ++ rest) ms)) (reads_before bytes rest (place_in m) first.0.0 first.0.1 first.1 ∙ sym first.1)
        ∙ ap (λ (l : List E). with_read (reading (drop (place_in m) bytes)) l) (listed_before bytes rest ms first.2)

-- records that are written
module _ {E : Type 0} (reading : Reading E) (bytes_of : E → List ℕ) (fits : E → Bool) (low : (value : E) → IsTrue (fits value) → 1 ≤ length (bytes_of value))
    (reads_back : (value : E) (rest : List ℕ) → IsTrue (fits value) → reading (bytes_of value ++ rest) ≡ Some (value, length (bytes_of value))) where
  -- they are read back at their marks
  pub written_read : (es : List E) (pre rest : List ℕ) (gate before : ℕ) → All (λ e. IsTrue (fits e)) es → length pre ≡ gate + 5 + before → before + length (joined bytes_of es) ≤ 65536 → listed reading (pre ++ (joined bytes_of es ++ rest)) (marks_of bytes_of gate before es) ≡ es
  written_read [] pre rest gate before fit size small = refl
  written_read (e ∷ es) pre rest gate before fit size small =
      let fit_first = All-head (λ x. IsTrue (fits x)) e es fit in
      let b = bytes_of e in
      let others = joined bytes_of es in
      let bytes = pre ++ ((b ++ others) ++ rest) in
      let later = marks_of bytes_of gate (before + length b) es in
      let sizes : length (b ++ others) ≡ length b + length others = length-append b others in
      let there : 1 ≤ length b = low e fit_first in
      let place : place_in (mark_of gate before) ≡ length pre = place_is gate before (omega (arith, there, small, sizes)) ∙ sym size in
      let at : drop (place_in (mark_of gate before)) bytes ≡ b ++ (others ++ rest) = ap (λ (k : ℕ). drop k bytes) place ∙ drop_at pre ((b ++ others) ++ rest) (length pre) refl ∙ append_assoc b others rest in
      let here : reading (drop (place_in (mark_of gate before)) bytes) ≡ Some (e, length b) = ap reading at ∙ reads_back e (others ++ rest) fit_first in
      let next : bytes ≡ (pre ++ b) ++ (others ++ rest) = ap (λ (l : List ℕ). pre ++ l) (append_assoc b others rest) ∙ sym (append_assoc pre b (others ++ rest)) in
      ap (λ (o : Option (E × ℕ)). with_read o (listed reading bytes later)) here
      ∙ ap (λ (l : List E). e ∷ l) (ap (λ (k : List ℕ). listed reading k later) next
      ∙ written_read es (pre ++ b) rest gate (before + length b) (All-tail (λ x. IsTrue (fits x)) e es fit) (omega (arith, size, length-append pre b)) (omega (arith, small, sizes)))

  -- and their gates are that of the group
  pub gates_are : (es : List E) (gate before : ℕ) → All (λ e. IsTrue (fits e)) es → before + length (joined bytes_of es) ≤ 65536 → map gate_in (marks_of bytes_of gate before es) ≡ replicate (length es) gate
  gates_are [] gate before fit small = refl
  gates_are (e ∷ es) gate before fit small =
      let there : 1 ≤ length (bytes_of e) = low e (All-head (λ x. IsTrue (fits x)) e es fit) in
      let sizes : length (bytes_of e ++ joined bytes_of es) ≡ length (bytes_of e) + length (joined bytes_of es) = length-append (bytes_of e) (joined bytes_of es) in
      ap (λ (g : ℕ). g ∷ map gate_in (marks_of bytes_of gate (before + length (bytes_of e)) es)) (gate_is gate before (omega (arith, there, small, sizes)))
      ∙ ap (λ (l : List ℕ). gate ∷ l) (gates_are es gate (before + length (bytes_of e)) (All-tail (λ x. IsTrue (fits x)) e es fit) (omega (arith, small, sizes)))

  pub marks_many : (es : List E) (gate before : ℕ) → length (marks_of bytes_of gate before es) ≡ length es
  marks_many [] gate before = refl
  marks_many (e ∷ es) gate before = ap suc (marks_many es gate (before + length (bytes_of e)))

  module _ (longer : (bytes rest : List ℕ) (e : E) (size : ℕ) → reading bytes ≡ Some (e, size) → reading (bytes ++ rest) ≡ Some (e, size)) (some : (bytes : List ℕ) (e : E) (size : ℕ) → reading bytes ≡ Some (e, size) → 1 ≤ length bytes) where
    -- a list with the records of one group more
    pub listed_more : (front head : List ℕ) (marks : List ℕ) (gate : ℕ) (es : List E) → length (listed reading front marks) ≡ length marks → All (λ e. IsTrue (fits e)) es → length front ≡ gate → length head ≡ 4 → length (joined bytes_of es) ≤ 65536
        → listed reading (front ++ (165 ∷ (head ++ joined bytes_of es))) (marks ++ marks_of bytes_of gate 0 es) ≡ listed reading front marks ++ es
    listed_more front head marks gate es all fit size four small =
        let body = joined bytes_of es in
        let bytes = front ++ (165 ∷ (head ++ body)) in
        let pre = front ++ (165 ∷ head) in
        let split : bytes ≡ pre ++ (body ++ []) = sym (append_assoc front (165 ∷ head) body) ∙ ap (λ (l : List ℕ). pre ++ l) (sym (append-nil body)) in
        let new : listed reading bytes (marks_of bytes_of gate 0 es) ≡ es = ap (λ (k : List ℕ). listed reading k (marks_of bytes_of gate 0 es)) split ∙ written_read es pre [] gate 0 fit (omega (arith, size, four, length-append front (165 ∷ head))) (omega (arith, small)) in
        listed_both reading bytes marks (marks_of bytes_of gate 0 es)
        ∙ ap (λ (l : List E). l ++ listed reading bytes (marks_of bytes_of gate 0 es)) (listed_before reading longer some front (165 ∷ (head ++ body)) marks all)
        ∙ ap (λ (l : List E). listed reading front marks ++ l) new

pub gates_both : (ms ns : List ℕ) → map gate_in (ms ++ ns) ≡ map gate_in ms ++ map gate_in ns
gates_both [] ns = refl
gates_both (m ∷ ms) ns = ap (λ (l : List ℕ). gate_in m ∷ l) (gates_both ms ns)

-- what a record's law says of further bytes
pub longer_by : {E : Type 0} (reading : Reading E) (e : E) (record_bytes bytes rest : List ℕ) (size : ℕ) → size ≡ length record_bytes → take size bytes ≡ record_bytes → ((l : List ℕ) → reading (record_bytes ++ l) ≡ Some (e, length record_bytes)) → reading (bytes ++ rest) ≡ Some (e, size)
longer_by {E = E} reading e record_bytes bytes rest size is taken back =
    let behind = drop size bytes in
    let split : bytes ++ rest ≡ record_bytes ++ (behind ++ rest) = ap (λ (l : List ℕ). l ++ rest) (sym (take-append-drop size bytes) ∙ ap (λ (l : List ℕ). l ++ behind) taken) ∙ append_assoc record_bytes behind rest in
    ap reading split ∙ back (behind ++ rest) ∙ ap (λ (n : ℕ). let found : E × ℕ = (e, n) in Some found) (sym is)

pub some_by : (record_bytes bytes : List ℕ) (size : ℕ) → size ≡ length record_bytes → take size bytes ≡ record_bytes → 1 ≤ length record_bytes → 1 ≤ length bytes
some_by record_bytes bytes size is taken low = omega (arith, is, low, ap length taken, length-take size bytes)

-- the bytes below the new last gate
pub new_front : (front head body rest new : List ℕ) (end now : ℕ) → length front ≡ end → length head ≡ 4 → now ≡ end + 5 + length body → new ≡ front ++ (165 ∷ (((head ++ body) ++ (0 ∷ [])) ++ rest)) → take now new ≡ front ++ (165 ∷ (head ++ body))
new_front front head body rest new end now size four is_now is =
    let group = head ++ body in
    let split : new ≡ (front ++ (165 ∷ group)) ++ (0 ∷ rest) = is ∙ ap (λ (l : List ℕ). front ++ (165 ∷ l)) (append_assoc group (0 ∷ []) rest) ∙ sym (append_assoc front (165 ∷ group) (0 ∷ rest)) in
    ap (λ (l : List ℕ). take now l) split ∙ take_at (front ++ (165 ∷ group)) (0 ∷ rest) now (omega (arith, is_now, size, four, length-append front (165 ∷ group), length-append head body))

-- a part of the bytes below a gate, seen from its place
pub behind_part : (bytes front : List ℕ) (place : ℕ) → bytes ≡ take (length bytes) (drop place front) → drop place front ≡ bytes ++ drop (length bytes) (drop place front)
behind_part bytes front place is = sym (take-append-drop (length bytes) (drop place front)) ∙ ap (λ (l : List ℕ). l ++ drop (length bytes) (drop place front)) (sym is)
