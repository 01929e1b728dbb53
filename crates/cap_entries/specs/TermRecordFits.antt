-- What is allowed in a terminal's journal fits its record.
use Rattle.std.proofs.Common.{◌≡◌, ℕ, zero, suc, ◌+◌, ◌≤◌, ◌<◌, Bool, true, List, [], length, Some, None, refl, ◌∙◌, arith, le-leb, leb-true}
use Rattle.std.specs.Prelude.{◌&&◌, ◌||◌, ◌==◌, nat_le, nat_lt}
use Rattle.std.proofs.lemmas.Bool.{and_parts, and_from}
use Rattle.std.proofs.lemmas.Option.{slice_get_within}
use Rattle.cap_base.specs.declared.parameters.ConfigPart.{ConfigPart}
use Rattle.cap_entries.specs.declared.stage.Stage.{Stage}
use Rattle.cap_entries.specs.declared.terminal.TermEntry.{TermEntry}
use Rattle.cap_entries.specs.declared.terminal.TermEntry.TheVariants.{Setup, Begin, Declined, Completed, Voided, Cancelled, Closed, Acked, Part}
use Rattle.cap_entries.specs.Stage.{stage_of}
use Rattle.cap_entries.specs.StageLaws.{ends_pending, cancels_completed}
use Rattle.cap_entries.specs.InForce.{version_in_force, staged_from, staged_version, continues}
use Rattle.cap_entries.specs.Allowed.{allowed_after, allowed, all_allowed}
use Rattle.cap_entries.specs.AllowedLaws.{allowed_is}
use Rattle.cap_entries.specs.Summary.{summary, follows}
use Rattle.cap_entries.specs.SummaryLaws.{summarises, follows_is}
use Rattle.cap_entries.specs.SummaryKept.{few_items, kept_along}
use Rattle.cap_entries.specs.RecordField.{is_count, is_share}
use Rattle.cap_entries.specs.TermRecord.{has_version, has_term_types, term_fits}

-- ---- what is allowed fits

stage_within : (sales : List Stage) (n : ℕ) (stage : Stage) → stage_of sales n ≡ Some stage → n ≤ length sales
stage_within sales zero stage is = omega arith
stage_within sales (suc n) stage is = let low : n < length sales = slice_get_within sales n stage is in omega arith

following : (before : List TermEntry) (entry : TermEntry) → all_allowed [] before ≡ true → allowed_after before entry ≡ true → follows (summary before) entry ≡ true
following before entry legal ok = follows_is before (summary before) entry (summarises before legal) ∙ ok

count_low : (n most : ℕ) → most ≤ 9999999999 → n ≤ most → is_count n ≡ true
count_low n most low h = le-leb n 9999999999 (omega arith)

ended_low : (before : List TermEntry) (n : ℕ) (stage : Stage) → all_allowed [] before ≡ true → stage_of (summary before).sales n ≡ Some stage → is_count n ≡ true
ended_low before n stage legal at =
    let within : n ≤ length (summary before).sales = stage_within (summary before).sales n stage at in
    let few : length (summary before).sales ≤ 250000 = (kept_along before legal).sales in
    count_low n 250000 (omega arith) (omega arith)

part_low : (before : List TermEntry) (part : ConfigPart) → allowed_after before (Part part) ≡ true → (is_share part.part ≡ true) × (is_share part.parts ≡ true)
part_low before part ok =
    let first : Bool = (part.part == 1) && nat_lt (version_in_force before) part.version && nat_lt (staged_version (staged_from None before)) part.version in
    let a = and_parts (nat_le 1 part.part && nat_le part.part part.parts && nat_le part.parts 16) (first || continues (staged_from None before) part) ok in
    let b = and_parts (nat_le 1 part.part && nat_le part.part part.parts) (nat_le part.parts 16) a.0 in
    let c = and_parts (nat_le 1 part.part) (nat_le part.part part.parts) b.0 in
    let low : 1 ≤ part.part = leb-true 1 part.part c.0 in
    let order : part.part ≤ part.parts = leb-true part.part part.parts c.1 in
    let high : part.parts ≤ 16 = leb-true part.parts 16 b.1 in
    (and_from _ _ c.0 (le-leb part.part 16 (omega arith)), and_from _ _ (le-leb 1 part.parts (omega arith)) b.1)

-- what is allowed after a legal list fits its record, where its fields are values of their types and a part's version has at most ten digits
pub allowed_term_fits : (before : List TermEntry) (entry : TermEntry) → all_allowed [] before ≡ true → allowed before entry ≡ true → has_term_types entry ≡ true → has_version entry ≡ true → term_fits entry ≡ true
allowed_term_fits before (Setup settings) legal ok types version = types
allowed_term_fits before (Begin n amount account) legal ok types version =
    let f = following before (Begin n amount account) legal (allowed_is before (Begin n amount account) refl ok) in
    let a = and_parts (n == length (summary before).sales + 1) (nat_le n (summary before).max) f in
    let low : n ≤ (summary before).max = leb-true n (summary before).max a.1 in
    let max : (summary before).max ≤ 250000 = (kept_along before legal).max in
    and_from _ _ (count_low n 250000 (omega arith) (omega arith)) types
allowed_term_fits before (Declined n) legal ok types version =
    let f = following before (Declined n) legal (allowed_is before (Declined n) refl ok) in
    ended_low before n _ legal (ends_pending (stage_of (summary before).sales n) f)
allowed_term_fits before (Completed n code) legal ok types version =
    let f = following before (Completed n code) legal (allowed_is before (Completed n code) refl ok) in
    and_from _ _ (ended_low before n _ legal (ends_pending (stage_of (summary before).sales n) f)) types
allowed_term_fits before (Voided n) legal ok types version =
    let f = following before (Voided n) legal (allowed_is before (Voided n) refl ok) in
    ended_low before n _ legal (ends_pending (stage_of (summary before).sales n) f)
allowed_term_fits before (Cancelled n) legal ok types version =
    let f = following before (Cancelled n) legal (allowed_is before (Cancelled n) refl ok) in
    ended_low before n _ legal (cancels_completed (stage_of (summary before).sales n) f)
allowed_term_fits before (Closed p) legal ok types version =
    let f = following before (Closed p) legal (allowed_is before (Closed p) refl ok) in
    let a = and_parts (p == (summary before).closes + 1) (nat_le p 250000) f in
    count_low p 250000 (omega arith) (leb-true p 250000 a.1)
allowed_term_fits before (Acked m) legal ok types version =
    let f = following before (Acked m) legal (allowed_is before (Acked m) refl ok) in
    let a = and_parts (nat_lt (summary before).acked m) (nat_le m (summary before).items) f in
    let low : m ≤ (summary before).items = leb-true m (summary before).items a.1 in
    let few : (summary before).items ≤ 750000 = few_items (summary before) (kept_along before legal) in
    count_low m 750000 (omega arith) (omega arith)
allowed_term_fits before (Part part) legal ok types version =
    let s = part_low before part (allowed_is before (Part part) refl ok) in
    and_from _ _ version (and_from _ _ s.0 (and_from _ _ s.1 types))
