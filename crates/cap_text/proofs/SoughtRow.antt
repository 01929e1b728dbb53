-- The row that a text opens, as the code finds it.
use Rattle.std.proofs.Common.{ℕ, ◌≡◌, Bool, true, false, List, [], ◌∷◌, Option, Some, None, sym, ◌∙◌, ap}
use Rattle.std.specs.Prelude.{MatchOption, IfSome, option_map}
use Rattle.cap_leaf.specs.declared.schema.Node.{Node}
use Rattle.cap_leaf.specs.declared.kinds.Kind.{Kind}
use Rattle.cap_leaf.specs.Schema.{Content, Table, all, one_of, table_in}
use Rattle.cap_leaf.specs.View.{table_view}
use Rattle.cap_text.specs.Faults.{Known, told_by}
use Rattle.cap_text.specs.Pieces.{opening}
use Rattle.cap_text.specs.Machine.{Left, rows, choice, Frame, State, inside, within, Found, look, fresh, around}
use Rattle.cap_text.specs.Bytes.{Reading, standing}
use Rattle.cap_text.specs.SeenFrames.{left_of, start_of}
use Rattle.cap_text.specs.Inner.{name_in, tagged, sought, sought_by, begun_by, entered, entered_by}
use Rattle.cap_text.specs.SeenRows.{found_of}
use Rattle.cap_text.specs.SeenDocs.{open_of, state_by, state_of, doc_in}
use Rattle.cap_text.specs.declared.open.Open.{Open}
use Rattle.cap_text.specs.declared.rows.Found.{Found as CodeFound}

pub sought_row : (r : Option CodeFound) (left : Left) (front name : List ℕ) (ns : List Node) → name_in front ≡ Some name
    → MatchOption r (look left name ≡ None) (λ f. look left name ≡ Some (found_of ns f)) → IfSome r (λ f. f.node.now.tag.now ≡ name)
    → MatchOption r (sought left front ≡ None) (λ f. sought left front ≡ Some (f.node.now.tag.now, found_of ns f))
sought_row None left front name ns e row tag = ap (sought_by left) e ∙ ap (option_map (tagged name)) row
sought_row (Some f) left front name ns e row tag =
    ap (sought_by left) e ∙ (ap (option_map (tagged name)) row ∙ ap (λ t. Some (tagged t (found_of ns f))) (sym tag))

-- ---- where a reader stands after a piece

pub begun_is : (one : Bool) (ns : List Node) (t : Table) → table_view ns ≡ t → left_of ns (start_of one) ≡ begun_by one t
begun_is true ns t e = ap choice e
begun_is false ns t e = ap (λ u. rows u 0 0) e

pub stands : (k : Kind) (s t : State) (n m : Known) (r : Reading) → r ≡ standing (within k s) n [] → s ≡ t → n ≡ m → r ≡ standing (within k t) m []
stands k s t n m r e f g = e ∙ ap (λ u. standing (within k u) n []) f ∙ ap (λ u. standing (within k t) u []) g

-- and after the opening of a structure
pub stands_open : (k : Kind) (o : Open) (fs : List Frame) (n m : Known) → o.kind ≡ k → o.leaf ≡ None → open_of o ≡ fs → n ≡ m → standing (doc_in o) n [] ≡ standing (within k (inside fs)) m []
stands_open k o fs n m e f g h =
    ap (λ j. standing (within j (state_of o)) n []) e
    ∙ ap (λ l. standing (within k (state_by l (open_of o))) n []) f
    ∙ ap (λ gs. standing (within k (inside gs)) n []) g
    ∙ ap (λ u. standing (within k (inside fs)) u []) h

-- ---- where a child that is opened leads

pub entered_is : (k : Kind) (f : Frame) (fs : List Frame) (n : Known) (tag : List ℕ) (found : Found) (bytes : ℕ) (c : Content) → found.content ≡ c
    → entered k f fs n tag found bytes ≡ entered_by k (around f found ∷ fs) n tag c bytes
entered_is k f fs n tag found bytes c e = ap (λ d. entered_by k (around f found ∷ fs) n tag d bytes) e

pub entered_all : (k : Kind) (g f : Frame) (fs : List Frame) (n : Known) (tag : List ℕ) (found : Found) (bytes : ℕ) (t : Table) → found.content ≡ all t → g ≡ around f found
    → standing (within k (inside (fresh tag (begun_by false (table_in found.content)) ∷ g ∷ fs))) (told_by n (opening tag) bytes) [] ≡ entered k f fs n tag found bytes
entered_all k g f fs n tag found bytes t e same =
    ap (λ h. standing (within k (inside (fresh tag (begun_by false (table_in found.content)) ∷ h ∷ fs))) (told_by n (opening tag) bytes) []) same
    ∙ (ap (λ d. standing (within k (inside (fresh tag (begun_by false (table_in d)) ∷ around f found ∷ fs))) (told_by n (opening tag) bytes) []) e
    ∙ sym (entered_is k f fs n tag found bytes (all t) e))

pub entered_one : (k : Kind) (g f : Frame) (fs : List Frame) (n : Known) (tag : List ℕ) (found : Found) (bytes : ℕ) (t : Table) → found.content ≡ one_of t → g ≡ around f found
    → standing (within k (inside (fresh tag (begun_by true (table_in found.content)) ∷ g ∷ fs))) (told_by n (opening tag) bytes) [] ≡ entered k f fs n tag found bytes
entered_one k g f fs n tag found bytes t e same =
    ap (λ h. standing (within k (inside (fresh tag (begun_by true (table_in found.content)) ∷ h ∷ fs))) (told_by n (opening tag) bytes) []) same
    ∙ (ap (λ d. standing (within k (inside (fresh tag (begun_by true (table_in d)) ∷ around f found ∷ fs))) (told_by n (opening tag) bytes) []) e
    ∙ sym (entered_is k f fs n tag found bytes (one_of t) e))
