use Rattle.std.proofs.Common.{◌≡◌, ◌<◌, ◌≤◌, ◌∙◌, Some, None, sym, ap, subst, arith, length, List}
use Rattle.std.specs.Prelude.{slice_get}
use Rattle.cap_base.specs.Captured.{captured}
use Rattle.cap_entries.specs.declared.host.HostEntry.{HostEntry}
use Rattle.cap_entries.specs.Log.{log, setup_of}
use Rattle.cap_host.specs.Capture.{line_of}
use Rattle.cap_host.specs.Host.{entries_of}
use Rattle.cap_plays.specs.Report.{amounts}
use Rattle.cap_host_lines.proofs.Keeping.{keeps_same, keeps_both}
use Rattle.cap_host_lines.proofs.Logs.{all_read, one_read, none_left, few_captured, nothing_yet}
use Rattle.cap_host_lines.proofs.report.captured_sum.Goals as goal

pub loop-k-init : goal.loop-k-init
loop-k-init g c = record { few = omega arith; rest = nothing_yet (amounts (captured (log (entries_of c.args.host.now) c.args.place))); small = omega arith; keeps = keeps_same c.args.host.now; later = omega arith }

pub captured_line-requires : goal.captured_line-requires
captured_line-requires g c = subst (λ (es : List HostEntry). c.args.place < length (setup_of es).terminals) (sym c.loop-k.invariant.keeps.entries) c.requires

pub overflow_add-sum : goal.overflow_add-sum
overflow_add-sum g c =
    let small = c.loop-k.invariant.small in
    let few = c.loop-k-test.true in
    let amount = c.amount_of-sum.ensures.small in
    omega (arith, small, few, amount)

pub loop-k-preserved : goal.loop-k-preserved
loop-k-preserved g c =
    let inv = c.loop-k.invariant in
    let own = log (entries_of c.args.host.now) c.args.place in
    let same : line_of (slice_get (captured own) c.loop-k.k) ≡ Some c.in-Some.line =
    ap (λ (es : List HostEntry). line_of (slice_get (captured (log es c.args.place)) c.loop-k.k)) (sym inv.keeps.entries) ∙ (sym c.in_ok-line.ensures.line ∙ c.in-Some.is) in
    let one = one_read own c.loop-k.k c.in-Some.line same in
    let value = c.amount_of-sum.ensures.value in
    let small = c.amount_of-sum.ensures.small in
    record {
      few = omega (arith, one.0);
      rest = omega (arith, one.1, inv.rest, value);
      small = omega (arith, inv.small, small);
      keeps = keeps_both c.args.host.now c.loop-k.host c.captured_line.new.host inv.keeps c.in_ok-line.ensures.keeps;
      later = omega (arith, inv.later, c.in_ok-line.ensures.blames.later);
    }

pub returns-in-None-clause-count : goal.returns-in-None-clause-count
returns-in-None-clause-count g c =
    let inv = c.loop-k.invariant in
    let own = log (entries_of c.args.host.now) c.args.place in
    let same : line_of (slice_get (captured own) c.loop-k.k) ≡ None =
    ap (λ (es : List HostEntry). line_of (slice_get (captured (log es c.args.place)) c.loop-k.k)) (sym inv.keeps.entries) ∙ (sym c.in_ok-line.ensures.line ∙ c.in-None.is) in
    omega (arith, all_read own c.loop-k.k same, inv.few)

pub returns-in-None-clause-sum : goal.returns-in-None-clause-sum
returns-in-None-clause-sum g c =
    let inv = c.loop-k.invariant in
    let own = log (entries_of c.args.host.now) c.args.place in
    let same : line_of (slice_get (captured own) c.loop-k.k) ≡ None =
    ap (λ (es : List HostEntry). line_of (slice_get (captured (log es c.args.place)) c.loop-k.k)) (sym inv.keeps.entries) ∙ (sym c.in_ok-line.ensures.line ∙ c.in-None.is) in
    omega (arith, none_left own c.loop-k.k (all_read own c.loop-k.k same), inv.rest)

pub returns-in-None-clause-keeps : goal.returns-in-None-clause-keeps
returns-in-None-clause-keeps g c = keeps_both c.args.host.now c.loop-k.host c.captured_line.new.host c.loop-k.invariant.keeps c.in_ok-line.ensures.keeps

pub returns-clause-count : goal.returns-clause-count
returns-clause-count g c =
    let own = log (entries_of c.args.host.now) c.args.place in
    let value = c.log_len-len.ensures.value in
    omega (arith, c.loop-k.invariant.few, few_captured own, value, c.loop-k-test.false)

pub returns-clause-sum : goal.returns-clause-sum
returns-clause-sum g c =
    let own = log (entries_of c.args.host.now) c.args.place in
    let value = c.log_len-len.ensures.value in
    let past : length (captured own) ≤ c.loop-k.k = omega (arith, few_captured own, value, c.loop-k-test.false) in
    omega (arith, c.loop-k.invariant.rest, none_left own c.loop-k.k past)

pub returns-clause-keeps : goal.returns-clause-keeps
returns-clause-keeps g c = c.loop-k.invariant.keeps
