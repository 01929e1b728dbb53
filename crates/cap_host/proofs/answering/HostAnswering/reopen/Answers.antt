use Rattle.std.proofs.Common.{rules, Some, refl, sym, ◌∙◌, ap, subst, inl, inr, ◌≡◌, IsTrue, List, ℕ, ◌+◌, ◌-◌, ◌*◌, ◌<◌, ◌≤◌, length, Bool, true, false, [], ◌∷◌, ◌++◌}
use Rattle.cap_host.specs.Host.{journal_of, entries_of}
use Rattle.cap_host.specs.Answering.{HostHas}
use Rattle.cap_host.proofs.Answerings.{no_other, not_unformatted, not_damaged, none_refused}
use Rattle.cap_journal.specs.File.{journal_of as file_of, NotFormatted, Damaged}
use Rattle.cap_host.specs.Opening.{IsHostOpenCause}
use Rattle.cap_entries.specs.FirstNotAllowed.{first_host_not_allowed}
use Rattle.cap_entries.specs.HostRecord.{host_reading}
use Rattle.cap_host.proofs.answering.HostAnswering.reopen.Goals.{in-NotAllowed, in-Disk, in-Memory}
use Rattle.cap_host.proofs.answering.HostAnswering.reopen.Goals as goal

pub returns-in-Err-Disk-clause-refused : goal.returns-in-Err-Disk-clause-refused
returns-in-Err-Disk-clause-refused g c = no_other g.J.Journal.tells g.J.Journal.moment g.J.Journal.left_since g.J.Journal.may_leave g.met.J.Journal.counts_now (journal_of c.args.self) c.into_journal-journal.result c.reopen.new.self c.into_journal-journal.ensures c.reopen.ensures.tells c.reopen.ensures.any_moment

pub returns-in-Err-NotFormatted-clause-refused : goal.returns-in-Err-NotFormatted-clause-refused
returns-in-Err-NotFormatted-clause-refused g c = no_other g.J.Journal.tells g.J.Journal.moment g.J.Journal.left_since g.J.Journal.may_leave g.met.J.Journal.counts_now (journal_of c.args.self) c.into_journal-journal.result c.reopen.new.self c.into_journal-journal.ensures c.reopen.ensures.tells c.reopen.ensures.any_moment

pub returns-in-Err-Damaged-clause-refused : goal.returns-in-Err-Damaged-clause-refused
returns-in-Err-Damaged-clause-refused g c = no_other g.J.Journal.tells g.J.Journal.moment g.J.Journal.left_since g.J.Journal.may_leave g.met.J.Journal.counts_now (journal_of c.args.self) c.into_journal-journal.result c.reopen.new.self c.into_journal-journal.ensures c.reopen.ensures.tells c.reopen.ensures.any_moment

pub returns-in-Err-Memory-clause-refused : goal.returns-in-Err-Memory-clause-refused
returns-in-Err-Memory-clause-refused g c = no_other g.J.Journal.tells g.J.Journal.moment g.J.Journal.left_since g.J.Journal.may_leave g.met.J.Journal.counts_now (journal_of c.args.self) c.into_journal-journal.result c.reopen.new.self c.into_journal-journal.ensures c.reopen.ensures.tells c.reopen.ensures.any_moment

pub returns-after-error-clause-refused : goal.returns-after-error-clause-refused
returns-after-error-clause-refused g c = λ told image left.
    no_other g.J.Journal.tells g.J.Journal.moment g.J.Journal.left_since g.J.Journal.may_leave g.met.J.Journal.counts_now (journal_of c.args.self) c.into_journal-journal.result c.reopen.new.self c.into_journal-journal.ensures c.reopen.ensures.tells c.reopen.ensures.any_moment told image
    (no_other g.J.Journal.tells g.J.Journal.moment g.J.Journal.left_since g.J.Journal.may_leave g.met.J.Journal.counts_now c.reopen.new.self c.reopen.new.self c.in-Err.error.back refl c.in-Err.ensures.tells c.in-Err.ensures.images (c.reopen.ensures.tells ∙ (ap g.J.Journal.tells c.into_journal-journal.ensures ∙ told)) image left)

pub returns-in-Err-NotFormatted-clause-why : goal.returns-in-Err-NotFormatted-clause-why
returns-in-Err-NotFormatted-clause-why g c = λ told all.
    let told_old = ap g.J.Journal.tells c.into_journal-journal.ensures ∙ told in
    let x = all (g.J.Journal.shown (journal_of c.args.self)) (g.met.J.Journal.shows_one (journal_of c.args.self) told) in
    not_unformatted _ x.0 x.1 (subst (λ j. file_of host_reading (g.J.Journal.shown j) ≡ NotFormatted) c.into_journal-journal.ensures (c.in-Err-NotFormatted.ensures.not_formatted told_old (cc c.in-Err-NotFormatted.field-0-is)))

pub returns-in-Ok-open-clause-entries : goal.returns-in-Ok-open-clause-entries
returns-in-Ok-open-clause-entries g c = λ told.
    let told_old = ap g.J.Journal.tells c.into_journal-journal.ensures ∙ told in (
      g.J.Journal.shown (journal_of c.args.self),
      g.met.J.Journal.shows_one (journal_of c.args.self) told,
      subst (λ j. HostHas (g.J.Journal.shown j) (entries_of c.in-Ok-open.host)) c.into_journal-journal.ensures (subst (λ l. HostHas (g.J.Journal.shown c.into_journal-journal.result) l) (sym c.in-Ok-open.ensures.entries) (c.in-Ok.ensures.entries told_old)),
    )

pub returns-in-Err-Damaged-clause-why : goal.returns-in-Err-Damaged-clause-why
returns-in-Err-Damaged-clause-why g c = λ told all.
    let told_old = ap g.J.Journal.tells c.into_journal-journal.ensures ∙ told in
    let x = all (g.J.Journal.shown (journal_of c.args.self)) (g.met.J.Journal.shows_one (journal_of c.args.self) told) in
    not_damaged _ x.0 c.in-Err-Damaged.place x.1 (subst (λ j. file_of host_reading (g.J.Journal.shown j) ≡ Damaged c.in-Err-Damaged.place) c.into_journal-journal.ensures (c.in-Err-Damaged.ensures.damaged told_old c.in-Err-Damaged.place (cc c.in-Err-Damaged.field-0-is)))

pub returns-after-error-clause-why : goal.returns-after-error-clause-why
returns-after-error-clause-why g c = λ told all.
    let told_old = ap g.J.Journal.tells c.into_journal-journal.ensures ∙ told in
    let x = all (g.J.Journal.shown (journal_of c.args.self)) (g.met.J.Journal.shows_one (journal_of c.args.self) told) in
    let has = subst (λ j. HostHas (g.J.Journal.shown j) (g.J.Journal.entries c.reopen.new.self)) c.into_journal-journal.ensures (c.in-Ok.ensures.entries told_old) in
    let same : x.0 ≡ g.J.Journal.entries c.reopen.new.self = cc (x.1, has) in
    elim c.match-error.branch [ in-NotAllowed w ↦ none_refused x.0 w.in-NotAllowed.i x.2 (subst (λ l. first_host_not_allowed l ≡ Some w.in-NotAllowed.i) (sym same) (subst (λ cause. IsHostOpenCause (g.J.Journal.entries c.reopen.new.self) (g.J.Journal.faults c.reopen.new.self) (g.J.Journal.faults c.in-Err.error.back) cause) w.in-NotAllowed.is c.in-Err.ensures.refused)) | in-Disk w ↦ inl w.fault-is | in-Memory w ↦ inr w.fault-is ]
