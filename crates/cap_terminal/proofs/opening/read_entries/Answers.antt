use Rattle.std.proofs.Common.{◌≡◌, ◌<◌, Bool, List, Option, Some, true, false, take, get_or, length, sym, ◌∙◌, ap, subst, arith}
use Rattle.std.specs.Prelude.{IsTrue, slice_get}
use Rattle.std.proofs.lemmas.Option.{get_or_from_slice_get, slice_get_within}
use Rattle.cap_disk.specs.Disk.{IsQuiet}
use Rattle.cap_entries.specs.declared.terminal.TermEntry.{TermEntry}
use Rattle.cap_entries.specs.Settings.{TerminalSettings}
use Rattle.cap_entries.specs.Allowed.{allowed}
use Rattle.cap_entries.specs.FirstLaws.{refused-take, legal-take}
use Rattle.cap_entries.specs.Summary.{summary}
use Rattle.cap_terminal.specs.Index.{index_of, TerminalIndex, changed, change_of}
use Rattle.cap_terminal.specs.View.{index_view}
use Rattle.cap_terminal.specs.declared.change.Change.{Change}
use Rattle.cap_terminal.specs.Ready.{IsReady}
use Rattle.cap_terminal.specs.Opening.{setup_in, setup_from}
use Rattle.cap_terminal.specs.declared.faults.TermOpenCause.{TermOpenCause}
use Rattle.cap_terminal.specs.declared.faults.TermOpenCause.TheVariants.{Disk}
use Rattle.cap_terminal.proofs.Growth.{index_push}
use Rattle.cap_terminal.proofs.Moments.{leaves_same, stays_through, quiet_through, quiet_never}
use Rattle.cap_terminal.proofs.Openings.{ready_for, setup_in_push, take_at, first_of_some, refused_at, answered_behind}
use Rattle.cap_terminal.proofs.opening.read_entries.Goals as goal

pub apply-requires : goal.apply-requires
apply-requires g c =
    let entries = g.J.Journal.entries c.args.journal.now in
    let before = take c.loop-i.i entries in
    let inv = c.loop-i.invariant in
    let entry = c.in_ok-entry.entry in
    let fine : allowed before entry ≡ true = sym (c.allows.ensures.exact before inv.judged inv.legal) ∙ c.if-not-allows.false in
    subst (λ (ch : Change). IsReady c.make_room.new.index ch) (sym c.change.ensures)
    (ready_for before c.make_room.new.index (c.in_ok-make_room.ensures.view ∙ inv.indexed) inv.legal entry fine c.in_ok-make_room.ensures.room)

pub returns-then-not-allows-clause-refused : goal.returns-then-not-allows-clause-refused
returns-then-not-allows-clause-refused g c =
    let entries = g.J.Journal.entries c.args.journal.now in
    let before = take c.loop-i.i entries in
    let inv = c.loop-i.invariant in
    let entry = c.in_ok-entry.entry in
    let at : slice_get entries c.loop-i.i ≡ Some entry = subst (λ (l : List TermEntry). slice_get l c.loop-i.i ≡ Some entry) inv.same c.in_ok-entry.ensures.value in
    let refused : allowed before entry ≡ false = sym (c.allows.ensures.exact before inv.judged inv.legal) ∙ c.if-not-allows.true in
    first_of_some entries c.loop-i.i (slice_get_within entries c.loop-i.i entry at) ∙ (sym inv.rest ∙ refused_at entries c.loop-i.i entry at refused)

pub returns-then-not-allows-clause-images : goal.returns-then-not-allows-clause-images
returns-then-not-allows-clause-images g c = λ told.
    let J = g.J.Journal in
    let inv = c.loop-i.invariant in
    let told' : IsTrue (J.tells c.loop-i.journal) = subst (λ (b : Bool). IsTrue b) (sym inv.tells) told in
    let first = inv.images told in
    leaves_same J.moment J.left_since J.may_leave c.args.journal.now c.loop-i.journal c.entry_at.new.journal
    (λ image left. g.met.J.Journal.counts_now c.loop-i.journal (J.moment c.args.journal.now) image told' first.later left) first (c.in_ok-entry.ensures.images told')

pub loop-i-preserved : goal.loop-i-preserved
loop-i-preserved g c =
    let J = g.J.Journal in
    let entries = J.entries c.args.journal.now in
    let i = c.loop-i.i in
    let before = take i entries in
    let inv = c.loop-i.invariant in
    let entry = c.in_ok-entry.entry in
    let at : slice_get entries i ≡ Some entry = subst (λ (l : List TermEntry). slice_get l i ≡ Some entry) inv.same c.in_ok-entry.ensures.value in
    let within : i < length entries = slice_get_within entries i entry at in
    let got : get_or entries i entry ≡ entry = get_or_from_slice_get entries i entry entry at in
    let fine : allowed before entry ≡ true = sym (c.allows.ensures.exact before inv.judged inv.legal) ∙ c.if-not-allows.false in
    let fine' : allowed before (get_or entries i entry) ≡ true = ap (allowed before) got ∙ fine in
    let grown = take_at entries i entry at in
    record {
      judged = c.in_ok-add.ensures.added before inv.judged ∙ ap summary (sym grown);
      indexed =
          c.apply.ensures.view
          ∙ (ap (λ (ch : Change). changed (index_view c.make_room.new.index) ch) c.change.ensures
          ∙ (ap (λ (x : TerminalIndex). changed x (change_of entry)) (c.in_ok-make_room.ensures.view ∙ inv.indexed)
          ∙ (sym (index_push before entry) ∙ ap index_of (sym grown))));
      started = c.setup_with-setup.ensures ∙ (ap (λ (s : Option TerminalSettings). setup_from s entry) inv.started ∙ (sym (setup_in_push before entry fine) ∙ ap setup_in (sym grown)));
      legal = legal-take entries i entry within fine' inv.legal;
      rest = refused-take entries i entry within fine' ∙ inv.rest;
      many = inv.many;
      readable = c.in_ok-entry.ensures.is_readable ∙ inv.readable;
      is_readable = c.in_ok-entry.ensures.is_readable ∙ inv.is_readable;
      len = c.in_ok-entry.ensures.len ∙ inv.len;
      same = c.in_ok-entry.ensures.entries ∙ inv.same;
      faults = omega (arith, inv.faults, c.in_ok-entry.ensures.faults);
      counts = stays_through (J.counts c.args.journal.now) (J.counts c.loop-i.journal) (J.counts c.entry_at.new.journal) inv.counts c.in_ok-entry.ensures.counts;
      has_failed = c.in_ok-entry.ensures.has_failed ∙ inv.has_failed;
      tells = c.in_ok-entry.ensures.tells ∙ inv.tells;
      images = λ told.
          let told' : IsTrue (J.tells c.loop-i.journal) = subst (λ (b : Bool). IsTrue b) (sym inv.tells) told in
          let first = inv.images told in
          leaves_same J.moment J.left_since J.may_leave c.args.journal.now c.loop-i.journal c.entry_at.new.journal
          (λ image left. g.met.J.Journal.counts_now c.loop-i.journal (J.moment c.args.journal.now) image told' first.later left) first (c.in_ok-entry.ensures.images told');
    }

pub returns-in_err-entry-clause-images : goal.returns-in_err-entry-clause-images
returns-in_err-entry-clause-images g c = λ told.
    let J = g.J.Journal in
    let inv = c.loop-i.invariant in
    let told' : IsTrue (J.tells c.loop-i.journal) = subst (λ (b : Bool). IsTrue b) (sym inv.tells) told in
    let first = inv.images told in
    leaves_same J.moment J.left_since J.may_leave c.args.journal.now c.loop-i.journal c.entry_at.new.journal
    (λ image left. g.met.J.Journal.counts_now c.loop-i.journal (J.moment c.args.journal.now) image told' first.later left) first (c.in_err-entry.ensures.images told')

pub returns-in_err-add-clause-images : goal.returns-in_err-add-clause-images
returns-in_err-add-clause-images g c = λ told.
    let J = g.J.Journal in
    let inv = c.loop-i.invariant in
    let told' : IsTrue (J.tells c.loop-i.journal) = subst (λ (b : Bool). IsTrue b) (sym inv.tells) told in
    let first = inv.images told in
    leaves_same J.moment J.left_since J.may_leave c.args.journal.now c.loop-i.journal c.entry_at.new.journal
    (λ image left. g.met.J.Journal.counts_now c.loop-i.journal (J.moment c.args.journal.now) image told' first.later left) first (c.in_ok-entry.ensures.images told')

pub returns-in_err-make_room-clause-images : goal.returns-in_err-make_room-clause-images
returns-in_err-make_room-clause-images g c = λ told.
    let J = g.J.Journal in
    let inv = c.loop-i.invariant in
    let told' : IsTrue (J.tells c.loop-i.journal) = subst (λ (b : Bool). IsTrue b) (sym inv.tells) told in
    let first = inv.images told in
    leaves_same J.moment J.left_since J.may_leave c.args.journal.now c.loop-i.journal c.entry_at.new.journal
    (λ image left. g.met.J.Journal.counts_now c.loop-i.journal (J.moment c.args.journal.now) image told' first.later left) first (c.in_ok-entry.ensures.images told')

pub returns-then-not-allows-clause-quiet : goal.returns-then-not-allows-clause-quiet
returns-then-not-allows-clause-quiet g c = quiet_never (g.J.Journal.counts c.args.journal.now) _ (λ is. cc)

pub returns-in_err-entry-clause-quiet : goal.returns-in_err-entry-clause-quiet
returns-in_err-entry-clause-quiet g c =
    let before = g.J.Journal.counts c.args.journal.now in
    let error = c.in_err-entry.field-0.0 in
    answered_behind c.from_residual.result error (λ (cause : TermOpenCause). IsQuiet before (cause ≡ Disk)) c.from_residual.ensures.1
    (quiet_through before (g.J.Journal.counts c.loop-i.journal) (error ≡ Disk) c.loop-i.invariant.counts c.in_err-entry.ensures.quiet)
