-- The summary of a legal journal tells exactly what is allowed next.
use Rattle.std.proofs.Common.{◌≡◌, ◌<◌, take, get_or, ℕ, zero, suc, ◌+◌, Bool, true, false, cond, not, ◌&&◌, List, [], ◌∷◌, ◌++◌, length, Option, Some, None, refl, sym, ◌∙◌, ap, subst, arith, eqb-true, length-append}
use Rattle.std.specs.Prelude.{◌==◌, nat_le, count_by}
use Rattle.std.specs.List.{list_any}
use Rattle.std.specs.Option.{option_map}
use Rattle.std.proofs.lemmas.Bool.{cond-true, cond-false, false≢true, and_parts}
use Rattle.std.proofs.lemmas.List.Sums.{fold_push}
use Rattle.std.proofs.lemmas.List.{take_more}
use Rattle.cap_base.specs.declared.item.Item.{Item}
use Rattle.cap_base.specs.declared.parameters.ConfigPart.{ConfigPart}
use Rattle.cap_entries.specs.declared.stage.Stage.{Stage}
use Rattle.cap_entries.specs.declared.stage.Stage.TheVariants.{Pending, Declined as Stage_declined, Completed as Stage_completed, Voided as Stage_voided, Cancelled as Stage_cancelled}
use Rattle.cap_entries.specs.declared.terminal.TermEntry.{TermEntry}
use Rattle.cap_entries.specs.declared.terminal.TermEntry.TheVariants.{Setup, Begin, Declined, Completed, Voided, Cancelled, Closed, Acked, Part}
use Rattle.cap_entries.specs.Entry.{is_setup, is_any_begin, is_begin, ends, completes, cancels, is_any_closed, is_pending, is_completed, is_cancelled, max_of}
use Rattle.cap_entries.specs.Items.{items_after, items}
use Rattle.cap_entries.specs.Acked.{acked_from, acked}
use Rattle.cap_entries.specs.InForce.{version_in_force_from, version_in_force, staged_from, continues, staged_version}
use Rattle.cap_entries.specs.Allowed.{part_allowed, allowed_after, allowed, all_allowed}
use Rattle.cap_entries.specs.AllowedLaws.{along}
use Rattle.cap_entries.specs.ItemsLaws.{items-push}
use Rattle.cap_entries.specs.StepLaws.{tested, untouched}
use Rattle.cap_entries.specs.Stage.{stage_of, set_stage, is_begun, is_ended, was_completed, was_cancelled, may_end, may_cancel}
use Rattle.cap_entries.specs.StageLaws.{stage-push, stage-set, stage_past, length-set_stage, ends_pending, cancels_completed}
use Rattle.cap_entries.specs.Summary.{Summary, no_summary, staged_by, summary_after, summary, continues_staged, version_staged, part_follows, follows, may_follow}

-- one entry more, where each row of the summary is one of the list
push_acked : (m : ℕ) (entries : List TermEntry) (entry : TermEntry) → acked_from m (entries ++ entry ∷ []) ≡ acked_from (acked_from m entries) (entry ∷ [])
push_acked m [] entry = refl
push_acked m (Setup settings ∷ entries) entry = push_acked m entries entry
push_acked m (Begin k amount account ∷ entries) entry = push_acked m entries entry
push_acked m (Declined k ∷ entries) entry = push_acked m entries entry
push_acked m (Completed k code ∷ entries) entry = push_acked m entries entry
push_acked m (Voided k ∷ entries) entry = push_acked m entries entry
push_acked m (Cancelled k ∷ entries) entry = push_acked m entries entry
push_acked m (Closed p ∷ entries) entry = push_acked m entries entry
push_acked m (Acked k ∷ entries) entry = push_acked k entries entry
push_acked m (Part part ∷ entries) entry = push_acked m entries entry

push_in_force : (v : ℕ) (entries : List TermEntry) (entry : TermEntry) → version_in_force_from v (entries ++ entry ∷ []) ≡ version_in_force_from (version_in_force_from v entries) (entry ∷ [])
push_in_force v [] entry = refl
push_in_force v (Setup settings ∷ entries) entry = push_in_force v entries entry
push_in_force v (Begin k amount account ∷ entries) entry = push_in_force v entries entry
push_in_force v (Declined k ∷ entries) entry = push_in_force v entries entry
push_in_force v (Completed k code ∷ entries) entry = push_in_force v entries entry
push_in_force v (Voided k ∷ entries) entry = push_in_force v entries entry
push_in_force v (Cancelled k ∷ entries) entry = push_in_force v entries entry
push_in_force v (Closed p ∷ entries) entry = push_in_force v entries entry
push_in_force v (Acked k ∷ entries) entry = push_in_force v entries entry
push_in_force v (Part part ∷ entries) entry = push_in_force (cond (part.part == part.parts) part.version v) entries entry

push_staged : (o : Option ConfigPart) (entries : List TermEntry) (entry : TermEntry) → staged_from o (entries ++ entry ∷ []) ≡ staged_from (staged_from o entries) (entry ∷ [])
push_staged o [] entry = refl
push_staged o (Setup settings ∷ entries) entry = push_staged o entries entry
push_staged o (Begin k amount account ∷ entries) entry = push_staged o entries entry
push_staged o (Declined k ∷ entries) entry = push_staged o entries entry
push_staged o (Completed k code ∷ entries) entry = push_staged o entries entry
push_staged o (Voided k ∷ entries) entry = push_staged o entries entry
push_staged o (Cancelled k ∷ entries) entry = push_staged o entries entry
push_staged o (Closed p ∷ entries) entry = push_staged o entries entry
push_staged o (Acked k ∷ entries) entry = push_staged o entries entry
push_staged o (Part part ∷ entries) entry = push_staged (Some part) entries entry

-- the numbers of a summary are those of the list, whatever the entries are
pub record Counts (entries : List TermEntry) (s : Summary) : Type 0 where
  pub acked : s.acked ≡ acked entries
  pub items : s.items ≡ length (items entries)
  pub in_force : s.in_force ≡ version_in_force entries
  pub staged : s.staged ≡ option_map staged_by (staged_from None entries)

one_more : (xs : List Item) (x : Item) → length (xs ++ x ∷ []) ≡ length xs + 1
one_more xs x = length-append xs (x ∷ [])

counts_items : (entries : List TermEntry) (entry : TermEntry) (s : Summary) → s.items ≡ length (items entries) → (summary_after s entry).items ≡ length (items_after entries (items entries) entry)
counts_items entries (Setup settings) s e = e
counts_items entries (Begin k amount account) s e = e
counts_items entries (Declined k) s e = e
counts_items entries (Completed k code) s e = ap (λ n. n + 1) e ∙ sym (one_more (items entries) _)
counts_items entries (Voided k) s e = ap (λ n. n + 1) e ∙ sym (one_more (items entries) _)
counts_items entries (Cancelled k) s e = ap (λ n. n + 1) e ∙ sym (one_more (items entries) _)
counts_items entries (Closed p) s e = ap (λ n. n + 1) e ∙ sym (one_more (items entries) _)
counts_items entries (Acked k) s e = e
counts_items entries (Part part) s e = e

counts_acked : (entry : TermEntry) (s : Summary) (m : ℕ) → s.acked ≡ m → (summary_after s entry).acked ≡ acked_from m (entry ∷ [])
counts_acked (Acked k) s m e = refl
counts_acked (Setup settings) s m e = e
counts_acked (Begin k amount account) s m e = e
counts_acked (Declined k) s m e = e
counts_acked (Completed k code) s m e = e
counts_acked (Voided k) s m e = e
counts_acked (Cancelled k) s m e = e
counts_acked (Closed p) s m e = e
counts_acked (Part part) s m e = e

counts_in_force : (entry : TermEntry) (s : Summary) (v : ℕ) → s.in_force ≡ v → (summary_after s entry).in_force ≡ version_in_force_from v (entry ∷ [])
counts_in_force (Part part) s v e = ap (λ w. cond (part.part == part.parts) part.version w) e
counts_in_force (Setup settings) s v e = e
counts_in_force (Begin k amount account) s v e = e
counts_in_force (Declined k) s v e = e
counts_in_force (Completed k code) s v e = e
counts_in_force (Voided k) s v e = e
counts_in_force (Cancelled k) s v e = e
counts_in_force (Closed p) s v e = e
counts_in_force (Acked k) s v e = e

counts_staged : (entry : TermEntry) (s : Summary) (o : Option ConfigPart) → s.staged ≡ option_map staged_by o → (summary_after s entry).staged ≡ option_map staged_by (staged_from o (entry ∷ []))
counts_staged (Part part) s o e = refl
counts_staged (Setup settings) s o e = e
counts_staged (Begin k amount account) s o e = e
counts_staged (Declined k) s o e = e
counts_staged (Completed k code) s o e = e
counts_staged (Voided k) s o e = e
counts_staged (Cancelled k) s o e = e
counts_staged (Closed p) s o e = e
counts_staged (Acked k) s o e = e

counts_step : (entries : List TermEntry) (entry : TermEntry) (s : Summary) → Counts entries s → Counts (entries ++ entry ∷ []) (summary_after s entry)
counts_step entries entry s c =
    record {
      acked = counts_acked entry s (acked entries) c.acked ∙ sym (push_acked 0 entries entry);
      items = counts_items entries entry s c.items ∙ sym (ap length (items-push entries entry));
      in_force = counts_in_force entry s (version_in_force entries) c.in_force ∙ sym (push_in_force 0 entries entry);
      staged = counts_staged entry s (staged_from None entries) c.staged ∙ sym (ap (option_map staged_by) (push_staged None entries entry));
    }

-- what the list says of each sale
pub record Stages (entries : List TermEntry) (sales : List Stage) : Type 0 where
  pub begins : (n : ℕ) → is_begun (stage_of sales n) ≡ list_any (is_begin n) entries
  pub ended : (n : ℕ) → is_ended (stage_of sales n) ≡ list_any (ends n) entries
  pub completed : (n : ℕ) → was_completed (stage_of sales n) ≡ list_any (completes n) entries
  pub cancelled : (n : ℕ) → was_cancelled (stage_of sales n) ≡ list_any (cancels n) entries

abbrev pub is_some : List TermEntry → Bool
is_some [] = false
is_some (entry ∷ entries) = true

-- what the summary of a legal journal says
pub record Summarises (entries : List TermEntry) (s : Summary) : Type 0 where
  pub started : s.started ≡ is_some entries
  pub max : s.max ≡ max_of entries
  pub begun : length s.sales ≡ count_by is_any_begin entries
  pub closes : s.closes ≡ count_by is_any_closed entries
  pub stages : Stages entries s.sales
  pub counts : Counts entries s

-- a pending sale, and a completed one that is not cancelled
pending_is : (o : Option Stage) → may_end o ≡ (is_begun o && not (is_ended o))
pending_is None = refl
pending_is (Some Pending) = refl
pending_is (Some Stage_declined) = refl
pending_is (Some Stage_completed) = refl
pending_is (Some Stage_voided) = refl
pending_is (Some Stage_cancelled) = refl

completed_is : (o : Option Stage) → may_cancel o ≡ (was_completed o && not (was_cancelled o))
completed_is None = refl
completed_is (Some Pending) = refl
completed_is (Some Stage_declined) = refl
completed_is (Some Stage_completed) = refl
completed_is (Some Stage_voided) = refl
completed_is (Some Stage_cancelled) = refl

pub may_end_is : (entries : List TermEntry) (s : Summary) → Summarises entries s → (n : ℕ) → may_end (stage_of s.sales n) ≡ is_pending entries n
may_end_is entries s m n = pending_is (stage_of s.sales n) ∙ (ap (λ b. b && not (is_ended (stage_of s.sales n))) (m.stages.begins n) ∙ ap (λ b. list_any (is_begin n) entries && not b) (m.stages.ended n))

pub may_cancel_is : (entries : List TermEntry) (s : Summary) → Summarises entries s → (n : ℕ) → may_cancel (stage_of s.sales n) ≡ (is_completed entries n && not (is_cancelled entries n))
may_cancel_is entries s m n =
    completed_is (stage_of s.sales n) ∙ (ap (λ b. b && not (was_cancelled (stage_of s.sales n))) (m.stages.completed n) ∙ ap (λ b. is_completed entries n && not b) (m.stages.cancelled n))

continues_is : (o : Option ConfigPart) (part : ConfigPart) → continues_staged (option_map staged_by o) part ≡ continues o part
continues_is None part = refl
continues_is (Some staged) part = refl

version_is : (o : Option ConfigPart) → version_staged (option_map staged_by o) ≡ staged_version o
version_is None = refl
version_is (Some staged) = refl

part_is : (entries : List TermEntry) (s : Summary) (part : ConfigPart) → Counts entries s → part_follows s.in_force s.staged part ≡ part_allowed entries part
part_is entries s part c = rw (c.in_force, c.staged, continues_is (staged_from None entries) part, version_is (staged_from None entries)) refl

-- what follows the summary is what is allowed after the set-up
pub follows_is : (entries : List TermEntry) (s : Summary) (entry : TermEntry) → Summarises entries s → follows s entry ≡ allowed_after entries entry
follows_is entries s (Setup settings) m = refl
follows_is entries s (Begin n amount account) m = rw (m.begun, m.max) refl
follows_is entries s (Declined n) m = may_end_is entries s m n
follows_is entries s (Completed n code) m = may_end_is entries s m n
follows_is entries s (Voided n) m = may_end_is entries s m n
follows_is entries s (Cancelled n) m = may_cancel_is entries s m n
follows_is entries s (Closed p) m = rw m.closes refl
follows_is entries s (Acked k) m = rw (m.counts.acked, m.counts.items) refl
follows_is entries s (Part part) m = part_is entries s part m.counts

-- an entry of no sale
stages_other : (entries : List TermEntry) (entry : TermEntry) (sales : List Stage) → Stages entries sales
    → ((n : ℕ) → is_begin n entry ≡ false) → ((n : ℕ) → ends n entry ≡ false) → ((n : ℕ) → completes n entry ≡ false) → ((n : ℕ) → cancels n entry ≡ false)
    → Stages (entries ++ entry ∷ []) sales
stages_other entries entry sales m b e c x =
    record {
      begins = λ n. untouched (is_begin n) entries entry _ (m.begins n) (b n);
      ended = λ n. untouched (ends n) entries entry _ (m.ended n) (e n);
      completed = λ n. untouched (completes n) entries entry _ (m.completed n) (c n);
      cancelled = λ n. untouched (cancels n) entries entry _ (m.cancelled n) (x n);
    }

stages_begin : (entries : List TermEntry) (amount : ℕ) (account : List ℕ) (sales : List Stage) → Stages entries sales
    → Stages (entries ++ Begin (length sales + 1) amount account ∷ []) (sales ++ Pending ∷ [])
stages_begin entries amount account sales m =
    let entry : TermEntry = Begin (length sales + 1) amount account in
    let none : (n : ℕ) → (length sales + 1 == n) ≡ true → stage_of sales n ≡ None = λ n yes. subst (λ j. stage_of sales j ≡ None) (eqb-true (length sales + 1) n yes) (stage_past sales) in
    record {
      begins = λ n. tested is_begun (is_begin n) entries entry (stage_of sales n) _ (Some Pending) (length sales + 1 == n) (m.begins n) (stage-push sales Pending n) (λ yes. rw (none n yes, yes) refl) (λ unequal. unequal);
      ended = λ n. tested is_ended (ends n) entries entry (stage_of sales n) _ (Some Pending) (length sales + 1 == n) (m.ended n) (stage-push sales Pending n) (λ yes. rw (none n yes) refl) (λ unequal. refl);
      completed = λ n. tested was_completed (completes n) entries entry (stage_of sales n) _ (Some Pending) (length sales + 1 == n) (m.completed n) (stage-push sales Pending n) (λ yes. rw (none n yes) refl) (λ unequal. refl);
      cancelled = λ n. tested was_cancelled (cancels n) entries entry (stage_of sales n) _ (Some Pending) (length sales + 1 == n) (m.cancelled n) (stage-push sales Pending n) (λ yes. rw (none n yes) refl) (λ unequal. refl);
    }

moved : (sales : List Stage) (k n : ℕ) (w : Stage) → stage_of sales k ≡ Some w → (k == n) ≡ true → stage_of sales n ≡ Some w
moved sales k n w at equal = subst (λ j. stage_of sales j ≡ Some w) (eqb-true k n equal) at

stages_declined : (entries : List TermEntry) (k : ℕ) (sales : List Stage) → stage_of sales k ≡ Some Pending → Stages entries sales
    → Stages (entries ++ Declined k ∷ []) (set_stage sales k Stage_declined)
stages_declined entries k sales at m =
    record {
      begins = λ n. tested is_begun (is_begin n) entries (Declined k) (stage_of sales n) _ (Some Stage_declined) (k == n) (m.begins n) (stage-set sales k Stage_declined n Pending at) (λ yes. rw (moved sales k n Pending at yes) refl) (λ unequal. refl);
      ended = λ n. tested is_ended (ends n) entries (Declined k) (stage_of sales n) _ (Some Stage_declined) (k == n) (m.ended n) (stage-set sales k Stage_declined n Pending at) (λ yes. rw (moved sales k n Pending at yes, yes) refl) (λ unequal. unequal);
      completed = λ n. tested was_completed (completes n) entries (Declined k) (stage_of sales n) _ (Some Stage_declined) (k == n) (m.completed n) (stage-set sales k Stage_declined n Pending at) (λ yes. rw (moved sales k n Pending at yes) refl) (λ unequal. refl);
      cancelled = λ n. tested was_cancelled (cancels n) entries (Declined k) (stage_of sales n) _ (Some Stage_declined) (k == n) (m.cancelled n) (stage-set sales k Stage_declined n Pending at) (λ yes. rw (moved sales k n Pending at yes) refl) (λ unequal. refl);
    }

stages_completed : (entries : List TermEntry) (k : ℕ) (code : List ℕ) (sales : List Stage) → stage_of sales k ≡ Some Pending → Stages entries sales
    → Stages (entries ++ Completed k code ∷ []) (set_stage sales k Stage_completed)
stages_completed entries k code sales at m =
    record {
      begins = λ n. tested is_begun (is_begin n) entries (Completed k code) (stage_of sales n) _ (Some Stage_completed) (k == n) (m.begins n) (stage-set sales k Stage_completed n Pending at) (λ yes. rw (moved sales k n Pending at yes) refl) (λ unequal. refl);
      ended = λ n. tested is_ended (ends n) entries (Completed k code) (stage_of sales n) _ (Some Stage_completed) (k == n) (m.ended n) (stage-set sales k Stage_completed n Pending at) (λ yes. rw (moved sales k n Pending at yes, yes) refl) (λ unequal. unequal);
      completed = λ n. tested was_completed (completes n) entries (Completed k code) (stage_of sales n) _ (Some Stage_completed) (k == n) (m.completed n) (stage-set sales k Stage_completed n Pending at) (λ yes. rw (moved sales k n Pending at yes, yes) refl) (λ unequal. unequal);
      cancelled = λ n. tested was_cancelled (cancels n) entries (Completed k code) (stage_of sales n) _ (Some Stage_completed) (k == n) (m.cancelled n) (stage-set sales k Stage_completed n Pending at) (λ yes. rw (moved sales k n Pending at yes) refl) (λ unequal. refl);
    }

stages_voided : (entries : List TermEntry) (k : ℕ) (sales : List Stage) → stage_of sales k ≡ Some Pending → Stages entries sales
    → Stages (entries ++ Voided k ∷ []) (set_stage sales k Stage_voided)
stages_voided entries k sales at m =
    record {
      begins = λ n. tested is_begun (is_begin n) entries (Voided k) (stage_of sales n) _ (Some Stage_voided) (k == n) (m.begins n) (stage-set sales k Stage_voided n Pending at) (λ yes. rw (moved sales k n Pending at yes) refl) (λ unequal. refl);
      ended = λ n. tested is_ended (ends n) entries (Voided k) (stage_of sales n) _ (Some Stage_voided) (k == n) (m.ended n) (stage-set sales k Stage_voided n Pending at) (λ yes. rw (moved sales k n Pending at yes, yes) refl) (λ unequal. unequal);
      completed = λ n. tested was_completed (completes n) entries (Voided k) (stage_of sales n) _ (Some Stage_voided) (k == n) (m.completed n) (stage-set sales k Stage_voided n Pending at) (λ yes. rw (moved sales k n Pending at yes) refl) (λ unequal. refl);
      cancelled = λ n. tested was_cancelled (cancels n) entries (Voided k) (stage_of sales n) _ (Some Stage_voided) (k == n) (m.cancelled n) (stage-set sales k Stage_voided n Pending at) (λ yes. rw (moved sales k n Pending at yes) refl) (λ unequal. refl);
    }

stages_cancelled : (entries : List TermEntry) (k : ℕ) (sales : List Stage) → stage_of sales k ≡ Some Stage_completed → Stages entries sales
    → Stages (entries ++ Cancelled k ∷ []) (set_stage sales k Stage_cancelled)
stages_cancelled entries k sales at m =
    record {
      begins = λ n. tested is_begun (is_begin n) entries (Cancelled k) (stage_of sales n) _ (Some Stage_cancelled) (k == n) (m.begins n) (stage-set sales k Stage_cancelled n Stage_completed at) (λ yes. rw (moved sales k n Stage_completed at yes) refl) (λ unequal. refl);
      ended = λ n. tested is_ended (ends n) entries (Cancelled k) (stage_of sales n) _ (Some Stage_cancelled) (k == n) (m.ended n) (stage-set sales k Stage_cancelled n Stage_completed at) (λ yes. rw (moved sales k n Stage_completed at yes) refl) (λ unequal. refl);
      completed = λ n. tested was_completed (completes n) entries (Cancelled k) (stage_of sales n) _ (Some Stage_cancelled) (k == n) (m.completed n) (stage-set sales k Stage_cancelled n Stage_completed at) (λ yes. rw (moved sales k n Stage_completed at yes) refl) (λ unequal. refl);
      cancelled = λ n. tested was_cancelled (cancels n) entries (Cancelled k) (stage_of sales n) _ (Some Stage_cancelled) (k == n) (m.cancelled n) (stage-set sales k Stage_cancelled n Stage_completed at) (λ yes. rw (moved sales k n Stage_completed at yes, yes) refl) (λ unequal. unequal);
    }

-- the stages after an entry that is allowed
stages_step : (entries : List TermEntry) (entry : TermEntry) (s : Summary) → Stages entries s.sales → follows s entry ≡ true → Stages (entries ++ entry ∷ []) (summary_after s entry).sales
stages_step entries (Setup settings) s m ok = absurd (false≢true ok)
stages_step entries (Begin n amount account) s m ok =
    subst (λ j. Stages (entries ++ Begin j amount account ∷ []) (s.sales ++ Pending ∷ [])) (sym (eqb-true n (length s.sales + 1) (and_parts (n == length s.sales + 1) (nat_le n s.max) ok).0))
    (stages_begin entries amount account s.sales m)
stages_step entries (Declined n) s m ok = stages_declined entries n s.sales (ends_pending (stage_of s.sales n) ok) m
stages_step entries (Completed n code) s m ok = stages_completed entries n code s.sales (ends_pending (stage_of s.sales n) ok) m
stages_step entries (Voided n) s m ok = stages_voided entries n s.sales (ends_pending (stage_of s.sales n) ok) m
stages_step entries (Cancelled n) s m ok = stages_cancelled entries n s.sales (cancels_completed (stage_of s.sales n) ok) m
stages_step entries (Closed p) s m ok = stages_other entries (Closed p) s.sales m (λ n. refl) (λ n. refl) (λ n. refl) (λ n. refl)
stages_step entries (Acked k) s m ok = stages_other entries (Acked k) s.sales m (λ n. refl) (λ n. refl) (λ n. refl) (λ n. refl)
stages_step entries (Part part) s m ok = stages_other entries (Part part) s.sales m (λ n. refl) (λ n. refl) (λ n. refl) (λ n. refl)

count_push : (p : TermEntry → Bool) (entries : List TermEntry) (entry : TermEntry) → count_by p (entries ++ entry ∷ []) ≡ count_by p entries + cond (p entry) 1 0
count_push p entries entry = fold_push (λ a x. a + cond (p x) 1 0) 0 entries entry

max_push : (entries : List TermEntry) (entry : TermEntry) → is_some entries ≡ true → max_of (entries ++ entry ∷ []) ≡ max_of entries
max_push [] entry e = absurd (false≢true e)
max_push (Setup settings ∷ rest) entry e = refl
max_push (Begin k amount account ∷ rest) entry e = refl
max_push (Declined k ∷ rest) entry e = refl
max_push (Completed k code ∷ rest) entry e = refl
max_push (Voided k ∷ rest) entry e = refl
max_push (Cancelled k ∷ rest) entry e = refl
max_push (Closed p ∷ rest) entry e = refl
max_push (Acked k ∷ rest) entry e = refl
max_push (Part part ∷ rest) entry e = refl

some_push : (entries : List TermEntry) (entry : TermEntry) → is_some (entries ++ entry ∷ []) ≡ true
some_push [] entry = refl
some_push (first ∷ rest) entry = refl

-- what follows keeps whether it is started and the most sales, and counts begun sales and closes
started_step : (s : Summary) (entry : TermEntry) → follows s entry ≡ true → ((summary_after s entry).started ≡ s.started) × ((summary_after s entry).max ≡ s.max)
started_step s (Setup settings) ok = absurd (false≢true ok)
started_step s (Begin n amount account) ok = (refl, refl)
started_step s (Declined n) ok = (refl, refl)
started_step s (Completed n code) ok = (refl, refl)
started_step s (Voided n) ok = (refl, refl)
started_step s (Cancelled n) ok = (refl, refl)
started_step s (Closed p) ok = (refl, refl)
started_step s (Acked k) ok = (refl, refl)
started_step s (Part part) ok = (refl, refl)

begun_step : (s : Summary) (entry : TermEntry) → length (summary_after s entry).sales ≡ length s.sales + cond (is_any_begin entry) 1 0
begun_step s (Setup settings) = omega arith
begun_step s (Begin n amount account) = length-append s.sales (Pending ∷ [])
begun_step s (Declined n) = omega (arith, length-set_stage s.sales n Stage_declined)
begun_step s (Completed n code) = omega (arith, length-set_stage s.sales n Stage_completed)
begun_step s (Voided n) = omega (arith, length-set_stage s.sales n Stage_voided)
begun_step s (Cancelled n) = omega (arith, length-set_stage s.sales n Stage_cancelled)
begun_step s (Closed p) = omega arith
begun_step s (Acked k) = omega arith
begun_step s (Part part) = omega arith

closes_step : (s : Summary) (entry : TermEntry) → follows s entry ≡ true → (summary_after s entry).closes ≡ s.closes + cond (is_any_closed entry) 1 0
closes_step s (Setup settings) ok = absurd (false≢true ok)
closes_step s (Begin n amount account) ok = omega arith
closes_step s (Declined n) ok = omega arith
closes_step s (Completed n code) ok = omega arith
closes_step s (Voided n) ok = omega arith
closes_step s (Cancelled n) ok = omega arith
closes_step s (Closed p) ok = eqb-true p (s.closes + 1) (and_parts (p == s.closes + 1) (nat_le p 250000) ok).0
closes_step s (Acked k) ok = omega arith
closes_step s (Part part) ok = omega arith

following_step : (entries : List TermEntry) (entry : TermEntry) (s : Summary) → Summarises entries s → is_some entries ≡ true → follows s entry ≡ true → Summarises (entries ++ entry ∷ []) (summary_after s entry)
following_step entries entry s m some ok =
    record {
      started = (started_step s entry ok).0 ∙ (m.started ∙ (some ∙ sym (some_push entries entry)));
      max = (started_step s entry ok).1 ∙ (m.max ∙ sym (max_push entries entry some));
      begun = begun_step s entry ∙ (ap (λ k. k + cond (is_any_begin entry) 1 0) m.begun ∙ sym (count_push is_any_begin entries entry));
      closes = closes_step s entry ok ∙ (ap (λ k. k + cond (is_any_closed entry) 1 0) m.closes ∙ sym (count_push is_any_closed entries entry));
      stages = stages_step entries entry s m.stages ok;
      counts = counts_step entries entry s m.counts;
    }

first_step : (entry : TermEntry) (s : Summary) → Summarises [] s → is_setup entry ≡ true → Summarises (entry ∷ []) (summary_after s entry)
first_step (Setup settings) s m ok =
    record {
      started = refl;
      max = refl;
      begun = m.begun;
      closes = m.closes;
      stages = stages_other [] (Setup settings) s.sales m.stages (λ n. refl) (λ n. refl) (λ n. refl) (λ n. refl);
      counts = counts_step [] (Setup settings) s m.counts;
    }
first_step (Begin n amount account) s m ok = absurd (false≢true ok)
first_step (Declined n) s m ok = absurd (false≢true ok)
first_step (Completed n code) s m ok = absurd (false≢true ok)
first_step (Voided n) s m ok = absurd (false≢true ok)
first_step (Cancelled n) s m ok = absurd (false≢true ok)
first_step (Closed p) s m ok = absurd (false≢true ok)
first_step (Acked k) s m ok = absurd (false≢true ok)
first_step (Part part) s m ok = absurd (false≢true ok)

-- one entry more that is allowed
summarises_step : (entries : List TermEntry) (entry : TermEntry) (s : Summary) → Summarises entries s → allowed entries entry ≡ true → Summarises (entries ++ entry ∷ []) (summary_after s entry)
summarises_step [] entry s m ok = first_step entry s m ok
summarises_step (first ∷ rest) entry s m ok = following_step (first ∷ rest) entry s m refl (follows_is (first ∷ rest) s entry m ∙ ok)

nothing : (t : Option Stage → Bool) → t None ≡ false → (n : ℕ) → t (stage_of [] n) ≡ false
nothing t e zero = e
nothing t e (suc n) = e

summarises_none : Summarises [] no_summary
summarises_none =
    record {
      started = refl;
      max = refl;
      begun = refl;
      closes = refl;
      stages = record { begins = λ n. nothing is_begun refl n; ended = λ n. nothing is_ended refl n; completed = λ n. nothing was_completed refl n; cancelled = λ n. nothing was_cancelled refl n };
      counts = record { acked = refl; items = refl; in_force = refl; staged = refl };
    }

pub summary-push : (entries : List TermEntry) (entry : TermEntry) → summary (entries ++ entry ∷ []) ≡ summary_after (summary entries) entry
summary-push entries entry = fold_push summary_after no_summary entries entry

pub summarises : (entries : List TermEntry) → all_allowed [] entries ≡ true → Summarises entries (summary entries)
summarises entries ok =
    along (λ e. Summarises e (summary e)) (λ before entry m fine. subst (Summarises (before ++ entry ∷ [])) (sym (summary-push before entry)) (summarises_step before entry (summary before) m fine))
    [] entries summarises_none ok

may_follow_from : (entries : List TermEntry) (entry : TermEntry) (s : Summary) → Summarises entries s → may_follow s entry ≡ allowed entries entry
may_follow_from [] entry s m = cond-false s.started _ _ m.started
may_follow_from (first ∷ rest) entry s m = cond-true s.started _ _ m.started ∙ follows_is (first ∷ rest) s entry m

-- what may follow the summary of a legal journal is what is allowed after it
pub may_follow_is : (entries : List TermEntry) (entry : TermEntry) → all_allowed [] entries ≡ true → may_follow (summary entries) entry ≡ allowed entries entry
may_follow_is entries entry ok = may_follow_from entries entry (summary entries) (summarises entries ok)

-- the summary up to the next place
pub summary-take : (entries : List TermEntry) (i : ℕ) (d : TermEntry) → i < length entries → d ≡ get_or entries i d → summary (take i entries ++ d ∷ []) ≡ summary (take (i + 1) entries)
summary-take entries i d h is = ap (λ e. summary (take i entries ++ e ∷ [])) is ∙ ap summary (sym (take_more entries i d h))
