use Rattle.std.proofs.Common.{◌≡◌, true, take, get_or, sym, ◌∙◌, ap, arith}
use Rattle.cap_entries.specs.HostAllowed.{host_allowed}
use Rattle.cap_entries.specs.FirstLaws.{host_refused-take, legal_host-take}
use Rattle.cap_entries.specs.HostSummaryLaws.{host_summary-take}
use Rattle.cap_entries.proofs.first.first_host_of.Goals as goal

pub loop-i-preserved : goal.loop-i-preserved
loop-i-preserved c =
    let before = take c.loop-i.i c.args.entries.now in
    let entry = get_or c.args.entries.now c.loop-i.i c.index-entries-i.result in
    let ok : host_allowed before entry ≡ true
    = ap (host_allowed before) (sym c.index-entries-i.is) ∙ (sym (c.allows.ensures.exact before c.loop-i.invariant.judge c.loop-i.invariant.legal) ∙ c.if-not-allows.false) in
    record {
      judge = c.in_ok-add.ensures.added before c.loop-i.invariant.judge ∙ host_summary-take c.args.entries.now c.loop-i.i c.index-entries-i.result (omega arith) c.index-entries-i.is;
      legal = legal_host-take c.args.entries.now c.loop-i.i c.index-entries-i.result (omega arith) ok c.loop-i.invariant.legal;
      rest = host_refused-take c.args.entries.now c.loop-i.i c.index-entries-i.result (omega arith) ok ∙ c.loop-i.invariant.rest;
    }
