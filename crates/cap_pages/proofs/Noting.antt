-- The marks of one group more.
use Rattle.std.proofs.Common.{◌≡◌, ℕ, ◌+◌, ◌≤◌, ◌<◌, List, ◌∷◌, ◌++◌, length, take, drop, map, replicate, slice_index, Bool, IsTrue, Some, refl, sym, ◌∙◌, ap, arith, append_assoc, length-append}
use Rattle.std.specs.Prelude.{Result, Ok, Err, IfOk}
use Rattle.std.proofs.lemmas.List.{take_at}
use Rattle.cap_journal.specs.File.{Reading, group_length, fits_group, body_of, behind}
use Rattle.cap_journal.specs.Reading.{groups_from}
use Rattle.cap_journal.specs.Group.{joined}
use Rattle.cap_pages.specs.Paged.{marks_of, gate_in, listed, IsNoted}
use Rattle.cap_journal.proofs.Groups.{group_bounds, head_size, body_size, body_split}
use Rattle.cap_journal.proofs.Readings.{at_group}
use Rattle.cap_journal.proofs.Sizes.{cut_group}
use Rattle.cap_journal.proofs.Writes.{split_at, length_front}
use Rattle.cap_pages.proofs.Marked.{listed_more, gates_are, gates_both, marks_many}

pub ok_from : {T F : Type 0} (result : Result T F) {P Q : T → Type 0} → ((v : T) → P v → Q v) → IfOk result P → IfOk result Q
ok_from (Ok v) f p = f v p
ok_from (Err e) f p = tt

-- what is known of the marks so far, seen from a place
pub record Steps {E : Type 0} (reading : Reading E) (shown : List ℕ) (place next : ℕ) (old new : List ℕ) : Type 0 where
  pub all_read : length (listed reading (take next shown) new) ≡ length new
  pub goes_on : behind (listed reading (take place shown) old) (map gate_in old) (groups_from reading place (drop place shown)) ≡ behind (listed reading (take next shown) new) (map gate_in new) (groups_from reading next (drop next shown))

module _ {E : Type 0} (reading : Reading E) (bytes_of : E → List ℕ) (fits : E → Bool) (low : (value : E) → IsTrue (fits value) → 1 ≤ length (bytes_of value))
    (reads_back : (value : E) (rest : List ℕ) → IsTrue (fits value) → reading (bytes_of value ++ rest) ≡ Some (value, length (bytes_of value)))
    (longer : (bytes rest : List ℕ) (e : E) (size : ℕ) → reading bytes ≡ Some (e, size) → reading (bytes ++ rest) ≡ Some (e, size)) (some : (bytes : List ℕ) (e : E) (size : ℕ) → reading bytes ≡ Some (e, size) → 1 ≤ length bytes)
    (sized : (value : E) (size : ℕ) (bytes : List ℕ) → reading bytes ≡ Some (value, size) → 1 ≤ size) where
  pub noted_step : (shown bytes : List ℕ) (place next : ℕ) (old new : List ℕ) → place < length shown → slice_index shown place ≡ 165 → IsTrue (fits_group (drop (place + 1) shown)) → bytes ≡ take (5 + group_length (drop (place + 1) shown)) (drop (place + 1) shown)
      → length (listed reading (take place shown) old) ≡ length old → IsNoted reading bytes_of fits bytes place old new next → Steps reading shown place next old new
  noted_step shown bytes place next old new lt is fit_there cut all noted =
      let rest = drop (place + 1) shown in
      let n = group_length rest in
      let front = take place shown in
      let head = take 4 rest in
      let added = noted.added in
      let body = joined bytes_of added in
      let same = cut_group reading bytes rest fit_there cut in
      let bounds = group_bounds rest fit_there in
      let size : length front ≡ place = length_front shown place lt in
      let four : length head ≡ 4 = head_size rest bounds in
      let body_is : body ≡ body_of rest = noted.body ∙ same.body in
      let many : length body ≡ n = ap length body_is ∙ body_size rest bounds in
      let there : next ≡ place + 5 + n = noted.next_is ∙ ap (λ (k : ℕ). place + 5 + k) same.number in
      let behind_it = drop (4 + n) rest in
      let split : shown ≡ (front ++ (165 ∷ (head ++ body))) ++ behind_it =
      split_at shown place lt ∙ ap (λ (g : ℕ). front ++ (g ∷ rest)) is
      ∙ ap (λ (l : List ℕ). front ++ (165 ∷ l)) (body_split rest ∙ ap (λ (l : List ℕ). head ++ (l ++ behind_it)) (sym body_is) ∙ sym (append_assoc head body behind_it))
      ∙ sym (append_assoc front (165 ∷ (head ++ body)) behind_it) in
      let below : take next shown ≡ front ++ (165 ∷ (head ++ body)) =
      ap (λ (l : List ℕ). take next l) split ∙ take_at (front ++ (165 ∷ (head ++ body))) behind_it next (omega (arith, there, many, size, four, length-append front (165 ∷ (head ++ body)), length-append head body)) in
      let list = listed reading front old in
      let gates = map gate_in old in
      let list_is : listed reading (take next shown) new ≡ list ++ added =
      ap (λ (l : List ℕ). listed reading l new) below ∙ ap (λ (l : List ℕ). listed reading (front ++ (165 ∷ (head ++ body))) l) noted.noted
      ∙ listed_more reading bytes_of fits low reads_back longer some front head old place added all noted.fit size four noted.high in
      let gates_is : map gate_in new ≡ gates ++ replicate (length added) place =
      ap (λ (l : List ℕ). map gate_in l) noted.noted ∙ gates_both old (marks_of bytes_of place 0 added)
      ∙ ap (λ (l : List ℕ). gates ++ l) (gates_are reading bytes_of fits low reads_back added place 0 noted.fit (omega (arith, noted.high))) in
      record {
        all_read = ap length list_is ∙ omega (arith, all, length-append list added, ap length noted.noted, length-append old (marks_of bytes_of place 0 added), marks_many reading bytes_of fits low reads_back added place 0);
        goes_on =
            at_group reading sized shown list added gates place n lt is (sym same.group ∙ noted.read) refl
            ∙ ap (λ (l : List E). behind l (gates ++ replicate (length added) place) (groups_from reading (place + 5 + n) (drop (place + 5 + n) shown))) (sym list_is)
            ∙ ap (λ (l : List ℕ). behind (listed reading (take next shown) new) l (groups_from reading (place + 5 + n) (drop (place + 5 + n) shown))) (sym gates_is)
            ∙ ap (λ (k : ℕ). behind (listed reading (take next shown) new) (map gate_in new) (groups_from reading k (drop k shown))) (sym there);
      }
