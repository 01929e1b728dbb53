use Rattle.std.proofs.Common.{◌≡◌, ◌+◌, ◌<◌, ◌≤◌, ◌++◌, ◌∷◌, [], ◌∙◌, true, sym, ap, arith, length, List, drop, None}
use Rattle.cap_base.specs.declared.item.Item.{Item}
use Rattle.cap_base.specs.Fits.{fits, all_fit}
use Rattle.cap_entries.specs.declared.host.HostEntry.{HostEntry}
use Rattle.cap_entries.specs.Log.{log}
use Rattle.cap_host_answers.specs.Answer.{fitting}
use Rattle.cap_host.specs.Host.{entries_of}
use Rattle.cap_host.proofs.Agreeing.{fitting_more, fit_more}
use Rattle.cap_host.proofs.Composed.{reads_reads}
use Rattle.cap_host.proofs.host.Host.fitting.Goals as goal

pub loop-item-preserved : goal.loop-item-preserved
loop-item-preserved g c =
    let own = log (entries_of c.args.self.now) c.args.terminal in
    let items = c.args.items.now in
    let i = c.loop-item.item-index in
    let taken = c.loop-item.taken.items in
    let x = c.item-item.result in
    let inv = c.loop-item.invariant in
    let here = ap (λ (es : List HostEntry). fits (log es c.args.terminal ++ taken) x) inv.entries in
    let ok : fits (own ++ taken) x ≡ true =
    sym here ∙ (ap (λ (l : List Item). fits (log (entries_of c.loop-item.self) c.args.terminal ++ l) x) (sym c.deref.ensures.value) ∙ (sym c.in_ok-may_follow.ensures.value ∙ c.if-not-branch.false)) in
    let grown = c.in_ok-push.ensures.items in
    record {
      rest = ap (λ (l : List Item). l ++ fitting (own ++ l) (drop (i + 1) items)) grown ∙ (fitting_more own taken items i x c.loop-item-test.true c.item-item.is ok ∙ inv.rest);
      fit = ap (all_fit own) grown ∙ fit_more own taken x inv.fit ok;
      few = omega (arith, inv.few, ap length grown);
      reads = reads_reads c.args.self.now c.loop-item.self c.may_follow.new.self None inv.reads c.in_ok-may_follow.ensures.reads;
      entries = c.in_ok-may_follow.ensures.entries ∙ inv.entries;
      fetched = omega (arith, inv.fetched, c.in_ok-may_follow.ensures.fetched);
    }
