-- What an image has that begins with open groups.
use Rattle.std.proofs.Common.{◌≡◌, inl, inr, ℕ, ◌+◌, ◌≤◌, ◌<◌, List, [], ◌∷◌, ◌++◌, length, take, replicate, map, sum, All, slice_index, Bool, true, false, ◌==◌, IsTrue, Option, Some, refl, sym, ◌∙◌, ap, subst, arith, append_assoc, length-append, zero-add}
use Rattle.std.proofs.Math.Seq.{get_or-append_seam}
use Rattle.std.proofs.lemmas.Bool.{eqb-true}
use Rattle.std.proofs.lemmas.List.{take_at, drop_at, append-nil}
use Rattle.std.proofs.lemmas.List.Sums.{sum-map, sum_by-cons}
use Rattle.std.proofs.lemmas.List.Elements.{All-head, All-tail}
use Rattle.byteorder.specs.Endian.{big_bytes}
use Rattle.byteorder.specs.Numbers.{big_number-reads_back, length-bytes_high_first}
use Rattle.cap_journal.specs.File.{Reading, Found, Whole, NotFormatted, Damaged, records, with_first, group_length, journal_of, entries_found, gates_found, end_found, Has, HasEither}
use Rattle.cap_journal.specs.Reading.{all_records}
use Rattle.cap_journal.specs.Group.{HasGate, HasGroup, HasGateOrGroup, IsOpened, joined}
use Rattle.cap_journal.proofs.Readings.{behind_some}
use Rattle.cap_journal.proofs.Groups.{Opens, Parts, parts, closed, one_more}

-- the length of a body, as a group's head
head_of : (n : ℕ) → n ≤ 65536 → group_length (big_bytes 4 n) ≡ n
unfolding group_length
head_of n high = ap (λ (l : List ℕ). group_length l) (sym (append-nil (big_bytes 4 n))) ∙ big_number-reads_back 4 n [] (omega arith)

module _ {E : Type 0} (reading : Reading E) where
  pub both : (found : Found E) (list : List E) (gates : List ℕ) (end : ℕ) → entries_found found ≡ Some list → gates_found found ≡ Some gates → end_found found ≡ Some end → found ≡ Whole list gates end
  both (Whole list' gates' end') list gates end entries places last =
      let lists : list' ≡ list = cc in
      let at : gates' ≡ gates = cc in
      let ends : end' ≡ end = cc in
      ap (λ (l : List E). Whole l gates' end') lists ∙ ap (λ (l : List ℕ). Whole list l end') at ∙ ap (λ (k : ℕ). Whole list gates k) ends
  both NotFormatted list gates end entries places last = cc
  both (Damaged place) list gates end entries places last = cc

  -- a file that is whole, seen from its last gate
  pub record Ready (shown : List ℕ) (list : List E) (gates : List ℕ) (end : ℕ) : Type 0 where
    pub opens : Opens reading 0 (take end shown) list gates
    pub shut : (slice_index shown end == 165) ≡ false
    pub lt : end < length shown
    pub size : length (take end shown) ≡ end

  ready_of : (shown : List ℕ) (list : List E) (gates : List ℕ) (end : ℕ) → Parts reading shown 0 list gates end → Ready shown list gates end
  ready_of shown list gates end p =
      let size : length p.front ≡ end = sym (zero-add (length p.front)) ∙ p.size in
      let front : take end shown ≡ p.front = ap (λ (l : List ℕ). take end l) p.split ∙ take_at p.front (p.gate ∷ p.rest) end size in
      let gate : slice_index shown end ≡ p.gate = ap (λ (l : List ℕ). slice_index l end) p.split ∙ ap (λ (k : ℕ). slice_index (p.front ++ (p.gate ∷ p.rest)) k) (sym size) ∙ get_or-append_seam p.front p.gate p.rest 0 in
      record {
        opens = subst (λ (l : List ℕ). Opens reading 0 l list gates) (sym front) p.opens;
        shut = ap (λ (k : ℕ). k == 165) gate ∙ p.shut;
        lt = omega (arith, size, ap length p.split, length-append p.front (p.gate ∷ p.rest));
        size = ap length front ∙ size;
      }

  pub ready : (shown : List ℕ) (list : List E) (gates : List ℕ) (end : ℕ) → journal_of reading shown ≡ Whole list gates end → Ready shown list gates end
  ready shown list gates end is = ready_of shown list gates end (parts reading (length shown) 0 shown list gates end is)

  -- open groups and a closed gate
  whole : (front : List ℕ) (list : List E) (gates : List ℕ) (gate : ℕ) (rest image : List ℕ) → Opens reading 0 front list gates → (gate == 165) ≡ false → image ≡ front ++ (gate ∷ rest) → journal_of reading image ≡ Whole list gates (length front)
  whole front list gates gate rest image opens shut is =
      ap (λ (l : List ℕ). journal_of reading l) is ∙ closed reading opens (length (front ++ (gate ∷ rest))) gate rest (omega (arith, length-append front (gate ∷ rest))) shut ∙ ap (λ (k : ℕ). Whole list gates k) (zero-add (length front))

  pub has_gate : (front : List ℕ) (list : List E) (gates : List ℕ) (gate : ℕ) (image : List ℕ) → Opens reading 0 front list gates → (gate == 165) ≡ false → HasGate front gate image → Has reading image list
  has_gate front list gates gate image opens shut has = ap (λ (f : Found E). entries_found f) (whole front list gates gate has.rest image opens shut has.is)

  -- a body of records that add up to these entries
  pub record Body (body : List ℕ) (es : List E) : Type 0 where
    pub low : 1 ≤ length body
    pub high : length body ≤ 65536
    pub reads : records reading (length body) body ≡ Some es

  pushed : (front : List ℕ) (list : List E) (gates : List ℕ) (body : List ℕ) (es : List E) → Opens reading 0 front list gates → Body body es → Opens reading 0 (front ++ (165 ∷ (big_bytes 4 (length body) ++ body))) (list ++ es) (gates ++ replicate (length es) (0 + length front))
  pushed front list gates body es opens b = one_more reading (big_bytes 4 (length body)) body es (length-bytes_high_first 4 (length body)) (head_of (length body) b.high) b.low b.high b.reads opens

  regrouped : (front body rest image : List ℕ) (gate : ℕ) → image ≡ front ++ (gate ∷ (((big_bytes 4 (length body) ++ body) ++ (0 ∷ [])) ++ rest)) → image ≡ (front ++ (gate ∷ (big_bytes 4 (length body) ++ body))) ++ (0 ∷ rest)
  regrouped front body rest image gate is =
      let group = big_bytes 4 (length body) ++ body in
      is ∙ ap (λ (l : List ℕ). front ++ (gate ∷ l)) (append_assoc group (0 ∷ []) rest) ∙ sym (append_assoc front (gate ∷ group) (0 ∷ rest))

  -- a whole group behind any gate counts or it doesn't
  pub has_group : (front : List ℕ) (list : List E) (gates : List ℕ) (body : List ℕ) (es : List E) (image : List ℕ) → Opens reading 0 front list gates → Body body es → HasGroup front ((big_bytes 4 (length body) ++ body) ++ (0 ∷ [])) image → HasEither reading list (list ++ es) image
  has_group front list gates body es image opens b has = by_gate (has.gate == 165) refl
    where
      group : List ℕ
      group = big_bytes 4 (length body) ++ body

      by_gate : (t : Bool) → (has.gate == 165) ≡ t → HasEither reading list (list ++ es) image
      by_gate false shut = inl (ap (λ (f : Found E). entries_found f) (whole front list gates has.gate (((big_bytes 4 (length body) ++ body) ++ (0 ∷ [])) ++ has.rest) image opens shut has.is))
      by_gate true open_gate =
          let is : image ≡ (front ++ (165 ∷ (big_bytes 4 (length body) ++ body))) ++ (0 ∷ has.rest) =
          regrouped front body has.rest image 165 (has.is ∙ ap (λ (g : ℕ). front ++ (g ∷ (((big_bytes 4 (length body) ++ body) ++ (0 ∷ [])) ++ has.rest))) (eqb-true has.gate 165 open_gate)) in
          inr (ap (λ (f : Found E). entries_found f) (whole (front ++ (165 ∷ (big_bytes 4 (length body) ++ body))) (list ++ es) (gates ++ replicate (length es) (0 + length front)) 0 has.rest image (pushed front list gates body es opens b) refl is))

  pub opened_is : (front : List ℕ) (list : List E) (gates : List ℕ) (body : List ℕ) (es : List E) (image : List ℕ) → Opens reading 0 front list gates → Body body es → IsOpened front ((big_bytes 4 (length body) ++ body) ++ (0 ∷ [])) image
      → journal_of reading image ≡ Whole (list ++ es) (gates ++ replicate (length es) (length front)) (length front + 5 + length body)
  opened_is front list gates body es image opens b has =
      let group = big_bytes 4 (length body) ++ body in
      let at : List ℕ = gates ++ replicate (length es) (0 + length front) in
      let is : image ≡ (front ++ (165 ∷ group)) ++ (0 ∷ has.rest) = regrouped front body has.rest image 165 has.is in
      whole (front ++ (165 ∷ group)) (list ++ es) at 0 has.rest image (pushed front list gates body es opens b) refl is
      ∙ ap (λ (k : ℕ). Whole (list ++ es) at k) (omega (arith, length-append front (165 ∷ group), length-append (big_bytes 4 (length body)) body, length-bytes_high_first 4 (length body)))
      ∙ ap (λ (k : ℕ). Whole (list ++ es) (gates ++ replicate (length es) k) (length front + 5 + length body)) (zero-add (length front))

  -- what a crash leaves of an append
  pub either_of : (shown group : List ℕ) (list : List E) (gates : List ℕ) (end : ℕ) (body : List ℕ) (es : List E) (image : List ℕ) → Ready shown list gates end → Body body es → group ≡ (big_bytes 4 (length body) ++ body) ++ (0 ∷ [])
      → HasGateOrGroup (take end shown) (slice_index shown end) group image → HasEither reading list (list ++ es) image
  either_of shown group list gates end body es image r b is (inl gate) = inl (has_gate (take end shown) list gates (slice_index shown end) image r.opens r.shut gate)
  either_of shown group list gates end body es image r b is (inr whole_group) = has_group (take end shown) list gates body es image r.opens b (subst (λ (l : List ℕ). HasGroup (take end shown) l image) is whole_group)

  -- the file after an append
  pub appended : (shown new group : List ℕ) (list : List E) (gates : List ℕ) (end : ℕ) (body : List ℕ) (es : List E) → Ready shown list gates end → Body body es → group ≡ (big_bytes 4 (length body) ++ body) ++ (0 ∷ [])
      → IsOpened (take end shown) group new → journal_of reading new ≡ Whole (list ++ es) (gates ++ replicate (length es) end) (end + 5 + length body)
  appended shown new group list gates end body es r b is done =
      opened_is (take end shown) list gates body es new r.opens b (subst (λ (l : List ℕ). IsOpened (take end shown) l new) is done)
      ∙ ap (λ (k : ℕ). Whole (list ++ es) (gates ++ replicate (length es) k) (k + 5 + length body)) r.size

-- the records of these entries, one behind the other
pub length_joined : {E : Type 0} (bytes_of : E → List ℕ) (es : List E) → length (joined bytes_of es) ≡ sum (map (λ e. length (bytes_of e)) es)
length_joined {E = E} bytes_of [] = refl
length_joined {E = E} bytes_of (e ∷ es) =
    let size = λ (x : E). length (bytes_of x) in
    length-append (bytes_of e) (joined bytes_of es) ∙ ap (λ (k : ℕ). length (bytes_of e) + k) (length_joined bytes_of es ∙ sum-map size es) ∙ sym (sum_by-cons size e es) ∙ sym (sum-map size (e ∷ es))

-- records that are written read back
module _ {E : Type 0} (reading : Reading E) (bytes_of : E → List ℕ) (fits : E → Bool)
    (sized : (value : E) (size : ℕ) (bytes : List ℕ) → reading bytes ≡ Some (value, size) → 1 ≤ size) (low : (value : E) → IsTrue (fits value) → 1 ≤ length (bytes_of value))
    (reads_back : (value : E) (rest : List ℕ) → IsTrue (fits value) → reading (bytes_of value ++ rest) ≡ Some (value, length (bytes_of value))) where
  read_all : (es : List E) → All (λ e. IsTrue (fits e)) es → all_records reading (joined bytes_of es) ≡ Some es
  read_all [] fit = refl
  read_all (e ∷ es) fit =
      let rest = joined bytes_of es in
      behind_some reading sized (bytes_of e ++ rest) e (length (bytes_of e)) (omega (arith, length-append (bytes_of e) rest, low e (All-head (λ x. IsTrue (fits x)) e es fit))) (reads_back e rest (All-head (λ x. IsTrue (fits x)) e es fit))
      ∙ ap (λ (l : List ℕ). with_first e (all_records reading l)) (drop_at (bytes_of e) rest (length (bytes_of e)) refl)
      ∙ ap (λ (o : Option (List E)). with_first e o) (read_all es (All-tail (λ x. IsTrue (fits x)) e es fit))

  low_all : (es : List E) → All (λ e. IsTrue (fits e)) es → 0 < length es → 1 ≤ length (joined bytes_of es)
  low_all [] fit some = absurd (omega arith)
  low_all (e ∷ es) fit some = omega (arith, length-append (bytes_of e) (joined bytes_of es), low e (All-head (λ x. IsTrue (fits x)) e es fit))

  pub body_of_all : (es : List E) → All (λ e. IsTrue (fits e)) es → 0 < length es → sum (map (λ e. length (bytes_of e)) es) ≤ 65536 → Body reading (joined bytes_of es) es
  body_of_all es fit some high = record { low = low_all es fit some; high = omega (arith, length_joined bytes_of es, high); reads = read_all es fit }
