use Rattle.std.proofs.Common.{◌≡◌, ◌≤◌, ◌+◌, true, false, [], ◌∷◌, ◌++◌, sym, ◌∙◌, ap, subst}
use Rattle.std.proofs.lemmas.Bool.{false≢true}
use Rattle.cap_entries.specs.Allowed.{is_legal}
use Rattle.cap_ledger.specs.Appended.{appended, not_appended}
use Rattle.cap_entries.specs.TermRecord.{term_fits, term_reading}
use Rattle.cap_entries.specs.TermRecordFits.{allowed_term_fits}
use Rattle.cap_terminal.specs.Index.{TerminalIndex, change_of, changed, index_of}
use Rattle.cap_terminal.specs.View.{index_view}
use Rattle.cap_terminal.specs.Ready.{IsReady, freed, more_owed}
use Rattle.cap_terminal.specs.declared.change.Change.{Change}
use Rattle.cap_terminal.proofs.Added.{fails}
use Rattle.cap_terminal.proofs.Failing.{failed_after}
use Rattle.cap_terminal.proofs.Growth.{legal_push, index_push, all_allowed_of}
use Rattle.cap_terminal.proofs.Room_laws.{ready, suffices, spare_left}
use Rattle.cap_terminal.proofs.add.add_entry.Goals as goal

pub append-requires-clause-fits : goal.append-requires-clause-fits
append-requires-clause-fits g c =
    let s = c.requires.stands in
    let entries = g.J.Journal.entries c.args.journal.now in
    allowed_term_fits entries c.args.entry (all_allowed_of entries s.legal) c.requires.allowed c.check_types.ensures c.requires.version

pub append-requires-clause-spare : goal.append-requires-clause-spare
append-requires-clause-spare g c =
    let s = c.requires.stands in
    let entries = g.J.Journal.entries c.args.journal.now in
    let fits : term_fits c.args.entry ≡ true = allowed_term_fits entries c.args.entry (all_allowed_of entries s.legal) c.requires.allowed c.check_types.ensures c.requires.version in
    suffices entries c.args.index.now s.indexed s.legal (g.J.Journal.spare c.args.journal.now) c.args.entry (s.reserved c.if-failed.false) c.requires.allowed fits c.requires.room

pub apply-requires : goal.apply-requires
apply-requires g c =
    let s = c.requires.stands in
    subst (λ (ch : Change). IsReady c.args.index.now ch) (sym c.change-follows.ensures) (ready (g.J.Journal.entries c.args.journal.now) c.args.index.now s.indexed s.legal (g.J.Journal.spare c.args.journal.now) c.args.entry c.requires.allowed c.requires.room)

pub returns-then-failed-clause-adds : goal.returns-then-failed-clause-adds
returns-then-failed-clause-adds g c =
    let s = c.requires.stands in
    fails g.J.Journal g.met.J.Journal.only_now c.args.journal.now (c.args.entry ∷ []) (sym s.failed_is ∙ c.if-failed.true) (λ is. cc)

pub returns-in-Ok-clause-stands : goal.returns-in-Ok-clause-stands
returns-in-Ok-clause-stands g c =
    let s = c.requires.stands in
    let e = c.in-Ok.ensures in
    let entries = g.J.Journal.entries c.args.journal.now in
    let grown : g.J.Journal.entries c.append.new.self ≡ entries ++ c.args.entry ∷ [] = e.ok s.readable in
    let fits : term_fits c.args.entry ≡ true = allowed_term_fits entries c.args.entry (all_allowed_of entries s.legal) c.requires.allowed c.check_types.ensures c.requires.version in
    record {
      readable = e.is_readable ∙ s.readable;
      indexed =
          c.apply.ensures.view
          ∙ (ap (λ (ch : Change). changed (index_view c.args.index.now) ch) c.change-follows.ensures
          ∙ (ap (λ (x : TerminalIndex). changed x (change_of c.args.entry)) s.indexed
          ∙ (sym (index_push entries c.args.entry) ∙ ap index_of (sym grown))));
      legal = ap is_legal grown ∙ legal_push entries c.args.entry s.legal c.requires.allowed;
      failed_is = c.if-failed.false ∙ sym e.cause.failed_ok;
      reserved = λ works.
          spare_left entries c.args.index.now s.indexed s.legal (g.J.Journal.spare c.args.journal.now) (g.J.Journal.spare c.append.new.self) c.args.entry c.apply.new.self.owed (s.reserved c.if-failed.false) c.requires.allowed fits c.requires.room e.spare
          (ap (λ (ch : Change). c.apply.new.self.owed + freed ch) (sym c.change-follows.ensures) ∙ (c.apply.ensures.owed ∙ ap (λ (ch : Change). c.args.index.now.owed + more_owed ch) c.change-follows.ensures));
    }

pub returns-in-Ok-clause-adds : goal.returns-in-Ok-clause-adds
returns-in-Ok-clause-adds g c =
    let J = g.J.Journal in
    let e = c.in-Ok.ensures in
    let works : J.has_failed c.args.journal.now ≡ false = sym c.requires.stands.failed_is ∙ c.if-failed.false in
    appended term_reading J (λ journal. journal) J.has_failed c.args.journal.now c.append.new.self (c.args.entry ∷ []) (λ is. cc) works works e.is_readable e.tells e.any_moment (e.cause.failed_ok ∙ sym works) e.ok e.len e.cause e.counts

pub returns-in-Err-clause-stands : goal.returns-in-Err-clause-stands
returns-in-Err-clause-stands g c =
    let s = c.requires.stands in
    let e = c.in-Err.ensures in
    record {
      readable = e.is_readable ∙ s.readable;
      indexed = s.indexed ∙ ap index_of (sym e.err);
      legal = ap is_legal e.err ∙ s.legal;
      failed_is = sym (failed_after c.in-Err.field-0 _ _ _ _ e.cause);
      reserved = λ working. absurd {A = c.args.index.now.owed ≤ (g.J.Journal.spare c.append.new.self).small} (false≢true (sym working));
    }

pub returns-in-Err-clause-adds : goal.returns-in-Err-clause-adds
returns-in-Err-clause-adds g c =
    let J = g.J.Journal in
    let e = c.in-Err.ensures in
    let works : J.has_failed c.args.journal.now ≡ false = sym c.requires.stands.failed_is ∙ c.if-failed.false in
    not_appended term_reading J (λ journal. journal) J.has_failed c.args.journal.now c.append.new.self (c.args.entry ∷ []) (λ is. cc) works works e.is_readable e.tells e.any_moment c.in-Err.field-0 (failed_after c.in-Err.field-0 _ _ _ _ e.cause) e.err e.err_len e.cause e.counts
