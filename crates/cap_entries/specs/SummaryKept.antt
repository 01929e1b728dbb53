-- The numbers of a summary stay small.
use Rattle.std.proofs.Common.{◌≡◌, ℕ, ◌+◌, ◌*◌, ◌≤◌, true, not, ◌&&◌, List, [], ◌∷◌, length, Some, refl, sym, ◌∙◌, ap, subst, ⊎_elim, arith, eqb-true, leb-true, length-append}
use Rattle.std.specs.Prelude.{◌==◌, nat_le, sum_by, bytes_eq}
use Rattle.std.proofs.lemmas.Bool.{cond-true, cond-false, cases_Bool, false≢true, and_parts, and_from}
use Rattle.std.proofs.lemmas.List.Sums.{sum_by-append}
use Rattle.cap_entries.specs.declared.stage.Stage.{Stage}
use Rattle.cap_entries.specs.declared.stage.Stage.TheVariants.{Pending, Declined as Stage_declined, Completed as Stage_completed, Voided as Stage_voided, Cancelled as Stage_cancelled}
use Rattle.cap_entries.specs.declared.terminal.TermEntry.{TermEntry}
use Rattle.cap_entries.specs.declared.terminal.TermEntry.TheVariants.{Setup, Begin, Declined, Completed, Voided, Cancelled, Closed, Acked, Part}
use Rattle.cap_entries.specs.Entry.{is_setup}
use Rattle.cap_entries.specs.Stage.{stage_of, set_stage, items_made}
use Rattle.cap_entries.specs.StageLaws.{length-set_stage, items-set_stage, ends_pending, cancels_completed}
use Rattle.cap_entries.specs.Items.{items}
use Rattle.cap_entries.specs.Allowed.{all_allowed}
use Rattle.cap_entries.specs.AllowedLaws.{all_allowed-append, along}
use Rattle.cap_entries.specs.SummaryLaws.{summarises, summary-push, may_follow_is}
use Rattle.cap_entries.specs.Summary.{Summary, no_summary, summary, summary_after, follows, may_follow, IsSummary}

two_at_most : (stage : Stage) → items_made stage ≤ 2
two_at_most Pending = omega arith
two_at_most Stage_declined = omega arith
two_at_most Stage_completed = omega arith
two_at_most Stage_voided = omega arith
two_at_most Stage_cancelled = omega arith

items_within : (sales : List Stage) → sum_by items_made sales ≤ 2 * length sales
items_within [] = omega arith
items_within (stage ∷ sales) = omega (arith, two_at_most stage, items_within sales, sum_by-append items_made (stage ∷ []) sales)

-- there are at most 750,000 items
pub few_items : (s : Summary) → IsSummary s → s.items ≤ 750000
few_items s i = omega (arith, i.items, i.sales, i.closes, items_within s.sales)

ended : (s : Summary) (n : ℕ) (y x : Stage) (k : ℕ) → IsSummary s → stage_of s.sales n ≡ Some x → items_made y ≡ items_made x + k
    → s.items + k ≡ sum_by items_made (set_stage s.sales n y) + s.closes
ended s n y x k i at more = omega (arith, i.items, items-set_stage s.sales n y x at, more)

still : (s : Summary) (n : ℕ) (y : Stage) → IsSummary s → length (set_stage s.sales n y) ≤ 250000
still s n y i = omega (arith, i.sales, length-set_stage s.sales n y)

kept_following : (s : Summary) (entry : TermEntry) → IsSummary s → follows s entry ≡ true → IsSummary (summary_after s entry)
kept_following s (Setup settings) i ok = absurd (false≢true ok)
kept_following s (Begin n amount account) i ok =
    let parts = and_parts (n == length s.sales + 1) (nat_le n s.max) ok in
    record {
      max = i.max;
      sales = omega (arith, eqb-true n (length s.sales + 1) parts.0, leb-true n s.max parts.1, i.max, length-append s.sales (Pending ∷ []));
      closes = i.closes;
      items = omega (arith, i.items, sum_by-append items_made s.sales (Pending ∷ []));
    }
kept_following s (Declined n) i ok =
    record { max = i.max; sales = still s n Stage_declined i; closes = i.closes; items = omega (arith, ended s n Stage_declined Pending 0 i (ends_pending (stage_of s.sales n) ok) refl) }
kept_following s (Completed n code) i ok =
    record { max = i.max; sales = still s n Stage_completed i; closes = i.closes; items = ended s n Stage_completed Pending 1 i (ends_pending (stage_of s.sales n) ok) refl }
kept_following s (Voided n) i ok =
    record { max = i.max; sales = still s n Stage_voided i; closes = i.closes; items = ended s n Stage_voided Pending 1 i (ends_pending (stage_of s.sales n) ok) refl }
kept_following s (Cancelled n) i ok =
    record { max = i.max; sales = still s n Stage_cancelled i; closes = i.closes; items = ended s n Stage_cancelled Stage_completed 1 i (cancels_completed (stage_of s.sales n) ok) refl }
kept_following s (Closed p) i ok =
    let parts = and_parts (p == s.closes + 1) (nat_le p 250000) ok in
    record { max = i.max; sales = i.sales; closes = leb-true p 250000 parts.1; items = omega (arith, i.items, eqb-true p (s.closes + 1) parts.0) }
kept_following s (Acked m) i ok = record { max = i.max; sales = i.sales; closes = i.closes; items = i.items }
kept_following s (Part part) i ok = record { max = i.max; sales = i.sales; closes = i.closes; items = i.items }

kept_first : (s : Summary) (entry : TermEntry) → IsSummary s → is_setup entry ≡ true → IsSummary (summary_after s entry)
kept_first s (Setup settings) i ok =
    let parts = and_parts (nat_le 1 settings.max && nat_le settings.max 250000) (nat_le settings.floor 999999999999 && not (bytes_eq settings.terminal settings.host)) ok in
    record { max = leb-true settings.max 250000 (and_parts (nat_le 1 settings.max) (nat_le settings.max 250000) parts.0).1; sales = i.sales; closes = i.closes; items = i.items }
kept_first s (Begin n amount account) i ok = absurd (false≢true ok)
kept_first s (Declined n) i ok = absurd (false≢true ok)
kept_first s (Completed n code) i ok = absurd (false≢true ok)
kept_first s (Voided n) i ok = absurd (false≢true ok)
kept_first s (Cancelled n) i ok = absurd (false≢true ok)
kept_first s (Closed p) i ok = absurd (false≢true ok)
kept_first s (Acked m) i ok = absurd (false≢true ok)
kept_first s (Part part) i ok = absurd (false≢true ok)

pub summary_kept : (s : Summary) (entry : TermEntry) → IsSummary s → may_follow s entry ≡ true → IsSummary (summary_after s entry)
summary_kept s entry i ok =
    ⊎_elim
    (λ started. kept_following s entry i (sym (cond-true s.started (follows s entry) (is_setup entry) started) ∙ ok))
    (λ unstarted. kept_first s entry i (sym (cond-false s.started (follows s entry) (is_setup entry) unstarted) ∙ ok))
    (cases_Bool s.started)

-- the same where the summary and the entry go by other names
pub kept_at : (s now : Summary) (entry given : TermEntry) → s ≡ now → given ≡ entry → IsSummary s → may_follow now given ≡ true → IsSummary (summary_after s entry)
kept_at s now entry given same is i ok = summary_kept s entry i (ap (λ v. may_follow v entry) same ∙ (ap (may_follow now) (sym is) ∙ ok))

none_kept : IsSummary no_summary
none_kept = record { max = omega arith; sales = omega arith; closes = omega arith; items = refl }

pub kept_along : (entries : List TermEntry) → all_allowed [] entries ≡ true → IsSummary (summary entries)
kept_along entries ok =
    (along (λ e. (all_allowed [] e ≡ true) × IsSummary (summary e))
    (λ before entry k fine. (
      all_allowed-append [] before (entry ∷ []) k.0 (and_from _ _ fine refl),
      subst IsSummary (sym (summary-push before entry)) (summary_kept (summary before) entry k.1 (may_follow_is before entry k.0 ∙ fine)),
    ))
    [] entries (refl, none_kept) ok).1

-- a legal journal makes at most 750,000 items
pub items_few : (entries : List TermEntry) → all_allowed [] entries ≡ true → length (items entries) ≤ 750000
items_few entries ok = omega (arith, few_items (summary entries) (kept_along entries ok), (summarises entries ok).counts.items)
