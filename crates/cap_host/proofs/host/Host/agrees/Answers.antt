use Rattle.std.proofs.Common.{◌≡◌, ◌+◌, ◌<◌, ◌≤◌, ◌∙◌, Bool, true, false, sym, ap, arith, length, List, drop, None}
use Rattle.std.specs.Prelude.{◌&&◌, slice_get}
use Rattle.cap_base.specs.declared.item.Item.{Item}
use Rattle.cap_entries.specs.declared.host.HostEntry.{HostEntry}
use Rattle.cap_entries.specs.Log.{log}
use Rattle.cap_host_answers.specs.Answer.{agree_so_far, same_item}
use Rattle.cap_host.specs.Host.{entries_of}
use Rattle.cap_host.proofs.Agreeing.{agree_step, agree_end}
use Rattle.cap_host.proofs.Composed.{reads_reads}
use Rattle.cap_host.proofs.host.Host.agrees.Goals as goal

pub returns-then-not-branch-clause-value : goal.returns-then-not-branch-clause-value
returns-then-not-branch-clause-value g c =
    let own = log (entries_of c.args.self.now) c.args.terminal in
    let items = c.args.items.now in
    let i = c.loop-i.i in
    let x = c.index-items-i.result in
    let inv = c.loop-i.invariant in
    let same = ap (λ (es : List HostEntry). same_item (slice_get (log es c.args.terminal) (c.args.from + i)) x) inv.entries in
    let differs : same_item (slice_get own (c.args.from + i)) x ≡ false = sym same ∙ (sym c.in_ok-is_item.ensures.value ∙ c.if-not-branch.true) in
    let tail = agree_so_far (drop (c.args.from + (i + 1)) own) (drop (i + 1) items) in
    sym (sym inv.rest ∙ (agree_step own items c.args.from i x c.requires.there c.loop-i-test.true c.index-items-i.is ∙ ap (λ (b : Bool). b && tail) differs))

pub returns-clause-value : goal.returns-clause-value
returns-clause-value g c =
    let own = log (entries_of c.args.self.now) c.args.terminal in
    sym (sym c.loop-i.invariant.rest ∙ agree_end (drop (c.args.from + c.loop-i.i) own) c.args.items.now c.loop-i.i (omega arith))

pub loop-i-preserved : goal.loop-i-preserved
loop-i-preserved g c =
    let own = log (entries_of c.args.self.now) c.args.terminal in
    let items = c.args.items.now in
    let i = c.loop-i.i in
    let x = c.index-items-i.result in
    let inv = c.loop-i.invariant in
    let same = ap (λ (es : List HostEntry). same_item (slice_get (log es c.args.terminal) (c.args.from + i)) x) inv.entries in
    let agrees : same_item (slice_get own (c.args.from + i)) x ≡ true = sym same ∙ (sym c.in_ok-is_item.ensures.value ∙ c.if-not-branch.false) in
    let tail = agree_so_far (drop (c.args.from + (i + 1)) own) (drop (i + 1) items) in
    record {
      rest = sym (agree_step own items c.args.from i x c.requires.there c.loop-i-test.true c.index-items-i.is ∙ ap (λ (b : Bool). b && tail) agrees) ∙ inv.rest;
      reads = reads_reads c.args.self.now c.loop-i.self c.is_item.new.self None inv.reads c.in_ok-is_item.ensures.reads;
      entries = c.in_ok-is_item.ensures.entries ∙ inv.entries;
      fetched = omega (arith, inv.fetched, c.in_ok-is_item.ensures.fetched);
    }
