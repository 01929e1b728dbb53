use Rattle.std.proofs.Common.{◌≡◌, ◌+◌, ◌<◌, List, Some, true, false, take, drop, get_or, length, sym, ◌∙◌, ap, subst, Option, None}
use Rattle.std.specs.Prelude.{slice_get}
use Rattle.std.proofs.lemmas.Option.{get_or_from_slice_get, slice_get_within}
use Rattle.cap_entries.specs.declared.host.HostEntry.{HostEntry}
use Rattle.cap_entries.specs.HostAllowed.{host_allowed}
use Rattle.cap_entries.specs.FirstLaws.{host_refused-take, legal_host-take}
use Rattle.cap_entries.specs.HostSummary.{host_summary}
use Rattle.cap_answering.specs.declared.fault.HostFault.{HostFault}
use Rattle.cap_ledger.specs.Ledger.{entries_in, OnlyReads}
use Rattle.cap_ledger.specs.Laws.{reads_then_reads, reads_lack}
use Rattle.cap_host.specs.Host.{ending}
use Rattle.cap_host.specs.Tables.{TablesTie}
use Rattle.cap_host.proofs.Composed.{lacks_fault}
use Rattle.cap_host.proofs.Openings.{take_at, length_at, refused_at}
use Rattle.cap_host.proofs.opening.read_all.Goals as goal

pub returns-then-not-allows-clause-opened : goal.returns-then-not-allows-clause-opened
returns-then-not-allows-clause-opened g c =
    let entries = entries_in c.args.ledger.now in
    let before = take c.loop-i.i entries in
    let inv = c.loop-i.invariant in
    let entry = c.in_ok-entry.entry in
    let at : slice_get entries c.loop-i.i ≡ Some entry = subst (λ (l : List HostEntry). slice_get l c.loop-i.i ≡ Some entry) inv.same c.in_ok-entry.ensures.value in
    refused_at entries c.loop-i.i entry at (sym (c.allows.ensures.exact before inv.judged inv.legal) ∙ c.if-not-allows.true) inv.rest

pub loop-i-preserved : goal.loop-i-preserved
loop-i-preserved g c =
    let entries = entries_in c.args.ledger.now in
    let i = c.loop-i.i in
    let before = take i entries in
    let inv = c.loop-i.invariant in
    let entry = c.in_ok-entry.entry in
    let at : slice_get entries i ≡ Some entry = subst (λ (l : List HostEntry). slice_get l i ≡ Some entry) inv.same c.in_ok-entry.ensures.value in
    let within : i < length entries = slice_get_within entries i entry at in
    let got : get_or entries i entry ≡ entry = get_or_from_slice_get entries i entry entry at in
    let fine : host_allowed before entry ≡ true = sym (c.allows.ensures.exact before inv.judged inv.legal) ∙ c.if-not-allows.false in
    let fine' : host_allowed before (get_or entries i entry) ≡ true = ap (host_allowed before) got ∙ fine in
    let grown = take_at entries i entry at in
    let reads = c.in_ok-entry.ensures.reads in
    record {
      judged = c.in_ok-add.ensures.added before inv.judged ∙ ap host_summary (sym grown);
      tied = subst (λ (es : List HostEntry). TablesTie es c.take.new.self) (sym grown) (c.in_ok-take.ensures before inv.tied (sym (length_at entries i entry at)) fine);
      legal = legal_host-take entries i entry within fine' inv.legal;
      rest = host_refused-take entries i entry within fine' ∙ inv.rest;
      readable = reads.stays.is_readable ∙ inv.readable;
      same = reads.entries ∙ inv.same;
      reads = reads_then_reads c.args.ledger.now c.loop-i.ledger c.entry_at.new.ledger {V = Unit {0}} {T = Unit {0}} tt (ending None) inv.reads reads;
    }

pub returns-in_err-add-clause-reads : goal.returns-in_err-add-clause-reads
returns-in_err-add-clause-reads g c =
    let old = c.args.ledger.now in
    let new = c.entry_at.new.ledger in
    let lack = c.from_residual-in_err-add in
    let read = reads_then_reads old c.loop-i.ledger new {V = Unit {0}} {T = Unit {0}} tt (ending None) c.loop-i.invariant.reads c.in_ok-entry.ensures.reads in
    subst (λ (f : Option HostFault). OnlyReads old new (ending f)) (sym (lacks_fault lack.result lack.ensures.1)) (reads_lack old new {V = Unit {0}} {T = Unit {0}} tt read)

pub returns-in_err-take-clause-reads : goal.returns-in_err-take-clause-reads
returns-in_err-take-clause-reads g c =
    let old = c.args.ledger.now in
    let new = c.entry_at.new.ledger in
    let lack = c.from_residual-in_err-take in
    let read = reads_then_reads old c.loop-i.ledger new {V = Unit {0}} {T = Unit {0}} tt (ending None) c.loop-i.invariant.reads c.in_ok-entry.ensures.reads in
    subst (λ (f : Option HostFault). OnlyReads old new (ending f)) (sym (lacks_fault lack.result lack.ensures.1)) (reads_lack old new {V = Unit {0}} {T = Unit {0}} tt read)
