-- What the calls answer.
use Rattle.std.proofs.Common.{ℕ, ◌≡◌, ◌<◌, ◌+◌, ◌^◌, List, ◌++◌, length, Some, None, sym, ◌∙◌, ap, arith, length-append}
use Rattle.std.specs.Prelude.{Result, Ok, Err, IfOk, OnOk, MatchResult}
use Rattle.std.proofs.lemmas.List.{length-take}
use Rattle.cap_leaf.specs.declared.kinds.Kind.{Kind}
use Rattle.cap_leaf.specs.declared.tree.Tree.{Tree}
use Rattle.cap_leaf.specs.Trees.{data_of}
use Rattle.cap_text.specs.declared.error.ReadError.{ReadError}
use Rattle.cap_text.specs.declared.error.ReadError.TheVariants.{Fault, Memory}
use Rattle.cap_text.specs.declared.reading.Reading.{Reading as CodeReading}
use Rattle.cap_text.specs.declared.reader.PieceReader.{PieceReader}
use Rattle.cap_text.specs.Pieces.{Spells, text_of}
use Rattle.cap_text.specs.Bytes.{Reading, begun, on_bytes, Verdict, verdict_of, run_bytes}
use Rattle.cap_text.specs.Seen.{reading_of, reading_in}
use Rattle.cap_text.specs.Reads.{HasRead, IsFaultOf}
use Rattle.cap_text.specs.Verdicts.{IsVerdict}
use Rattle.cap_trees.specs.Fits.{FitsKind}
use Rattle.cap_text.proofs.WrittenAgain.{spells_fit}
use Rattle.cap_text.proofs.Came.{came}
use Rattle.cap_text.proofs.Stepping.{on_ok}
use Rattle.cap_text.proofs.Verdict.{place_of, verdict_document, verdict_fault, in_pieces}

some_reading : (r s : Reading) → Some r ≡ Some s → r ≡ s
some_reading r s e = cc

no_reading : (r : Reading) → Some r ≡ None → ⊥
no_reading r e = cc

-- what a reader that has read bytes can take
can_take : (q : CodeReading) (bytes : List ℕ) (n : ℕ) → reading_of q ≡ on_bytes begun bytes → length bytes + n < 2 ^ 64 → q.known.place + length q.held.bytes.items + n < 2 ^ 64
can_take q bytes n e few =
    let c = came bytes in
    let held : q.held.bytes.items ≡ (on_bytes begun bytes).held = ap (λ r. r.held) e in
    let place : q.known.place ≡ (on_bytes begun bytes).known.place = ap (λ r. r.known.place) e in
    omega (arith, few, ap length held, place, ap (λ n. n.place) c.knows, place_of c.pieces, ap length c.is, length-append (text_of c.pieces) c.rest, ap length c.holds, length-take 128 c.rest)

pub reads : {A E : Type 0} (result : Result A E) (r : PieceReader) (q s : CodeReading) (bytes piece : List ℕ) → r.reading ≡ Some q → HasRead r bytes → length bytes + length piece < 2 ^ 64
    → (q.known.place + length q.held.bytes.items + length piece < 2 ^ 64 → OnOk result (reading_of s ≡ on_bytes (reading_of q) piece)) → OnOk result (Some (reading_of s) ≡ Some (on_bytes begun (bytes ++ piece)))
reads result r q s bytes piece e h few next =
    let same : reading_of q ≡ on_bytes begun bytes = some_reading (reading_of q) (on_bytes begun bytes) (sym (ap reading_in e) ∙ h) in
    on_ok result _ _ (λ is. ap Some (is ∙ ap (λ t. on_bytes t piece) same ∙ in_pieces bytes piece)) (next (can_take q bytes (length piece) same few))

verdict_says : (bytes : List ℕ) (v : Verdict) (result : Result (Kind × Tree) ReadError) → run_bytes bytes ≡ v → IsVerdict v result
    → MatchResult result (λ d. Spells d.0 (data_of d.1) bytes) (λ e. IsFaultOf bytes e)
verdict_says bytes v (Ok d) e h = verdict_document d.0 (data_of d.1) bytes (e ∙ h)
verdict_says bytes v (Err (Fault f)) e h = verdict_fault f bytes (e ∙ h)
verdict_says bytes v (Err Memory) e h = tt

pub finishes : (r : PieceReader) (q : CodeReading) (result : Result (Kind × Tree) ReadError) → r.reading ≡ Some q → IsVerdict (verdict_of (reading_of q)) result
    → (bytes : List ℕ) → HasRead r bytes → MatchResult result (λ d. Spells d.0 (data_of d.1) bytes) (λ e. IsFaultOf bytes e)
finishes r q result e v bytes h =
    let same : reading_of q ≡ on_bytes begun bytes = some_reading (reading_of q) (on_bytes begun bytes) (sym (ap reading_in e) ∙ h) in
    verdict_says bytes (verdict_of (reading_of q)) result (sym (ap verdict_of same)) v

-- what was read fits its kind
pub ok_fits : (bytes : List ℕ) (result : Result (Kind × Tree) ReadError) → MatchResult result (λ d. Spells d.0 (data_of d.1) bytes) (λ e. IsFaultOf bytes e)
    → IfOk result (λ d. FitsKind d.0 (data_of d.1))
ok_fits bytes (Ok d) h = spells_fit d.0 (data_of d.1) bytes h
ok_fits bytes (Err e) h = tt
