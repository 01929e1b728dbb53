-- One row of a table, as the loops meet it.
use Rattle.std.proofs.Common.{ℕ, zero, suc, ◌<◌, ◌≤◌, ◌+◌, ◌≡◌, List, [], ◌∷◌, true, false, nat_lt, Some, None, sym, ◌∙◌, ap, arith, cond, rules, length, drop, get_or}
use Rattle.std.specs.Str.{bytes_eq}
use Rattle.std.proofs.lemmas.List.{drop_more}
use Rattle.cap_leaf.specs.declared.schema.Node.{Node}
use Rattle.cap_leaf.specs.Schema.{row}
use Rattle.cap_leaf.specs.View.{table_view, content_view}
use Rattle.cap_trees.specs.Tests.{bounded_test, bounded_in}
use Rattle.cap_text.specs.Machine.{rows, filled, Found, seek, pick, satisfied}
use Rattle.cap_text.proofs.Common.{and_true}
use Rattle.cap_text.proofs.Seeing.{node_is}

-- a row that was found: its place, how often it stands now, and its node
abbrev pub row_found : List Node → Node → ℕ → ℕ → Found
row_found ns n at count = record { left = rows (table_view (drop at ns)) at count; at = at; content = content_view n.shape }

at_row : (ns : List Node) (i : ℕ) (d : Node) → i < length ns → table_view (drop i ns)
    ≡ row (get_or ns i d).tag.now (get_or ns i d).least (get_or ns i d).most (content_view (get_or ns i d).shape) (table_view (drop (i + 1) ns))
at_row ns i d lt = ap table_view (drop_more ns i d lt) ∙ node_is (get_or ns i d) (table_view (drop (i + 1) ns))

seeks : (ns : List Node) (i : ℕ) (d : Node) (n : ℕ) (tag : List ℕ) → i < length ns → seek (table_view (drop i ns)) i n tag
    ≡ cond (bytes_eq (get_or ns i d).tag.now tag)
    (cond (nat_lt n (get_or ns i d).most) (Some (row_found ns (get_or ns i d) i (suc n))) None)
    (cond (nat_lt n (get_or ns i d).least) None (seek (table_view (drop (i + 1) ns)) (suc i) 0 tag))
seeks ns i d n tag lt =
    ap (λ t. seek t i n tag) (at_row ns i d lt)
    ∙ ap (λ t. cond (bytes_eq (get_or ns i d).tag.now tag)
    (cond (nat_lt n (get_or ns i d).most) (Some record { left = rows t i (suc n); at = i; content = content_view (get_or ns i d).shape }) None)
    (cond (nat_lt n (get_or ns i d).least) None (seek (table_view (drop (i + 1) ns)) (suc i) 0 tag))) (sym (at_row ns i d lt))

pub seeks_found : (ns : List Node) (i : ℕ) (d : Node) (n : ℕ) (tag : List ℕ) → i < length ns → bytes_eq (get_or ns i d).tag.now tag ≡ true → n < (get_or ns i d).most
    → seek (table_view (drop i ns)) i n tag ≡ Some (row_found ns (get_or ns i d) i (n + 1))
seeks_found ns i d n tag lt same less = seeks ns i d n tag lt
    ∙ ap (λ b. cond b (cond (nat_lt n (get_or ns i d).most) (Some (row_found ns (get_or ns i d) i (suc n))) None) (cond (nat_lt n (get_or ns i d).least) None (seek (table_view (drop (i + 1) ns)) (suc i) 0 tag))) same
    ∙ ap (λ b. cond b (Some (row_found ns (get_or ns i d) i (suc n))) None) (let e : nat_lt n (get_or ns i d).most ≡ true = search rules in e)
    ∙ ap (λ k. Some (row_found ns (get_or ns i d) i k)) (let e : suc n ≡ n + 1 = omega arith in e)

pub seeks_full : (ns : List Node) (i : ℕ) (d : Node) (n : ℕ) (tag : List ℕ) → i < length ns → bytes_eq (get_or ns i d).tag.now tag ≡ true → (get_or ns i d).most ≤ n
    → seek (table_view (drop i ns)) i n tag ≡ None
seeks_full ns i d n tag lt same more = seeks ns i d n tag lt
    ∙ ap (λ b. cond b (cond (nat_lt n (get_or ns i d).most) (Some (row_found ns (get_or ns i d) i (suc n))) None) (cond (nat_lt n (get_or ns i d).least) None (seek (table_view (drop (i + 1) ns)) (suc i) 0 tag))) same
    ∙ ap (λ b. cond b (Some (row_found ns (get_or ns i d) i (suc n))) None) (let e : nat_lt n (get_or ns i d).most ≡ false = search rules in e)

pub seeks_short : (ns : List Node) (i : ℕ) (d : Node) (n : ℕ) (tag : List ℕ) → i < length ns → bytes_eq (get_or ns i d).tag.now tag ≡ false → n < (get_or ns i d).least
    → seek (table_view (drop i ns)) i n tag ≡ None
seeks_short ns i d n tag lt other less = seeks ns i d n tag lt
    ∙ ap (λ b. cond b (cond (nat_lt n (get_or ns i d).most) (Some (row_found ns (get_or ns i d) i (suc n))) None) (cond (nat_lt n (get_or ns i d).least) None (seek (table_view (drop (i + 1) ns)) (suc i) 0 tag))) other
    ∙ ap (λ b. cond b None (seek (table_view (drop (i + 1) ns)) (suc i) 0 tag)) (let e : nat_lt n (get_or ns i d).least ≡ true = search rules in e)

pub seeks_on : (ns : List Node) (i : ℕ) (d : Node) (n : ℕ) (tag : List ℕ) → i < length ns → bytes_eq (get_or ns i d).tag.now tag ≡ false → (get_or ns i d).least ≤ n
    → seek (table_view (drop i ns)) i n tag ≡ seek (table_view (drop (i + 1) ns)) (i + 1) 0 tag
seeks_on ns i d n tag lt other enough = seeks ns i d n tag lt
    ∙ ap (λ b. cond b (cond (nat_lt n (get_or ns i d).most) (Some (row_found ns (get_or ns i d) i (suc n))) None) (cond (nat_lt n (get_or ns i d).least) None (seek (table_view (drop (i + 1) ns)) (suc i) 0 tag))) other
    ∙ ap (λ b. cond b None (seek (table_view (drop (i + 1) ns)) (suc i) 0 tag)) (let e : nat_lt n (get_or ns i d).least ≡ false = search rules in e)
    ∙ ap (λ k. seek (table_view (drop (i + 1) ns)) k 0 tag) (let e : suc i ≡ i + 1 = omega arith in e)

-- ---- a choice

picks : (ns : List Node) (i : ℕ) (d : Node) (tag : List ℕ) → i < length ns → pick (table_view (drop i ns)) i tag
    ≡ cond (bytes_eq (get_or ns i d).tag.now tag) (Some record { left = filled; at = i; content = content_view (get_or ns i d).shape }) (pick (table_view (drop (i + 1) ns)) (suc i) tag)
picks ns i d tag lt = ap (λ t. pick t i tag) (at_row ns i d lt)

pub picks_found : (ns : List Node) (i : ℕ) (d : Node) (tag : List ℕ) → i < length ns → bytes_eq (get_or ns i d).tag.now tag ≡ true
    → pick (table_view (drop i ns)) i tag ≡ Some record { left = filled; at = i; content = content_view (get_or ns i d).shape }
picks_found ns i d tag lt same = picks ns i d tag lt
    ∙ ap (λ b. cond b (Some record { left = filled; at = i; content = content_view (get_or ns i d).shape }) (pick (table_view (drop (i + 1) ns)) (suc i) tag)) same

pub picks_on : (ns : List Node) (i : ℕ) (d : Node) (tag : List ℕ) → i < length ns → bytes_eq (get_or ns i d).tag.now tag ≡ false
    → pick (table_view (drop i ns)) i tag ≡ pick (table_view (drop (i + 1) ns)) (i + 1) tag
picks_on ns i d tag lt other = picks ns i d tag lt
    ∙ ap (λ b. cond b (Some record { left = filled; at = i; content = content_view (get_or ns i d).shape }) (pick (table_view (drop (i + 1) ns)) (suc i) tag)) other
    ∙ ap (λ k. pick (table_view (drop (i + 1) ns)) k tag) (let e : suc i ≡ i + 1 = omega arith in e)

-- ---- the end of a structure

suffices : (ns : List Node) (i : ℕ) (d : Node) (n : ℕ) → i < length ns → satisfied (table_view (drop i ns)) n
    ≡ cond (nat_lt n (get_or ns i d).least) false (satisfied (table_view (drop (i + 1) ns)) 0)
suffices ns i d n lt = ap (λ t. satisfied t n) (at_row ns i d lt)

pub suffices_not : (ns : List Node) (i : ℕ) (d : Node) (n : ℕ) → i < length ns → n < (get_or ns i d).least → satisfied (table_view (drop i ns)) n ≡ false
suffices_not ns i d n lt less = suffices ns i d n lt ∙ ap (λ b. cond b false (satisfied (table_view (drop (i + 1) ns)) 0)) (let e : nat_lt n (get_or ns i d).least ≡ true = search rules in e)

pub suffices_on : (ns : List Node) (i : ℕ) (d : Node) (n : ℕ) → i < length ns → (get_or ns i d).least ≤ n
    → satisfied (table_view (drop i ns)) n ≡ satisfied (table_view (drop (i + 1) ns)) 0
suffices_on ns i d n lt enough = suffices ns i d n lt ∙ ap (λ b. cond b false (satisfied (table_view (drop (i + 1) ns)) 0)) (let e : nat_lt n (get_or ns i d).least ≡ false = search rules in e)

-- ---- the bounds of a row

pub bounded_at : (ns : List Node) (i : ℕ) (d : Node) → i < length ns → bounded_test (table_view ns) ≡ true → bounded_in (content_view (get_or ns i d).shape) ≡ true
bounded_at [] i d lt h = absurd (omega arith)
bounded_at (n ∷ ns) zero d lt h =
    let here : bounded_test (row n.tag.now n.least n.most (content_view n.shape) (table_view ns)) ≡ true = ap bounded_test (sym (node_is n (table_view ns))) ∙ h in
    (and_true (bounded_in (content_view n.shape)) (bounded_test (table_view ns)) here).0
bounded_at (n ∷ ns) (suc i) d lt h =
    let here : bounded_test (row n.tag.now n.least n.most (content_view n.shape) (table_view ns)) ≡ true = ap bounded_test (sym (node_is n (table_view ns))) ∙ h in
    bounded_at ns i d (omega arith) (and_true (bounded_in (content_view n.shape)) (bounded_test (table_view ns)) here).1
