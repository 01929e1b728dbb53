use Rattle.std.proofs.Common.{◌≡◌, Option, Some, None, sym, subst, arith}
use Rattle.cap_disk.specs.Disk.{Counts}
use Rattle.cap_disk.specs.Switch.{stop_of}
use Rattle.cap_disk.specs.MemoryDisk.{told_of}
use Rattle.cap_schedule.specs.declared.schedule.Prefix.{Prefix}
use Rattle.cap_schedule.specs.declared.schedule.Prefix.TheVariants.{Cut, Fail, CutAfter}
use Rattle.cap_power.specs.Counting.{Counting, CountsFromOne}
use Rattle.cap_power.proofs.Numbers.{counting_cut, counting_fail, from_one_cut, from_one_fail}
use Rattle.cap_power.proofs.Disks.{if_ok_map, if_ok_any}
use Rattle.cap_power.proofs.arming.armed.Goals as goal

pub returns-else-call-eq0-clause-call : goal.returns-else-call-eq0-clause-call
returns-else-call-eq0-clause-call g c =
    let is : c.args.prefix ≡ Some (Cut c.in-Some-Cut.call c.in-Some-Cut.fill) = grind (arith, c.in-Some-Cut.is, c.in-Some-Cut.field-0-is, c.in-Some-Cut.call-is, c.in-Some-Cut.fill-is) in
    if_ok_any c.arm.result (CountsFromOne c.args.prefix) (from_one_cut c.args.prefix c.in-Some-Cut.call c.in-Some-Cut.fill is (omega (arith, c.if-call-eq0.false)))

pub returns-else-call-eq0-clause-counts : goal.returns-else-call-eq0-clause-counts
returns-else-call-eq0-clause-counts g c = λ most counting.
    let is : c.args.prefix ≡ Some (Cut c.in-Some-Cut.call c.in-Some-Cut.fill) = grind (arith, c.in-Some-Cut.is, c.in-Some-Cut.field-0-is, c.in-Some-Cut.call-is, c.in-Some-Cut.fill-is) in
    let now : Counts = record { calls = counting.calls; stop = stop_of counting.calls c.in-Some-Cut.call } in
    if_ok_map c.arm.result (λ end. told_of (g.T.OverDisk.disk end) ≡ Some now) (λ end. Counting c.args.prefix most (told_of (g.T.OverDisk.disk end)))
    (λ end told. counting_cut c.args.prefix c.in-Some-Cut.call c.in-Some-Cut.fill most (told_of (g.T.OverDisk.disk end)) is (omega (arith, c.if-call-eq0.false)) counting.calls counting.few told)
    (c.arm.ensures.counts (record { calls = counting.calls; stop = None }) counting.is)

pub returns-else-call-eq0-2-clause-call : goal.returns-else-call-eq0-2-clause-call
returns-else-call-eq0-2-clause-call g c =
    let is : c.args.prefix ≡ Some (Fail c.in-Some-Fail.call c.in-Some-Fail.fill) = grind (arith, c.in-Some-Fail.is, c.in-Some-Fail.field-0-is, c.in-Some-Fail.call-is, c.in-Some-Fail.fill-is) in
    if_ok_any c.arm-in-Some-Fail.result (CountsFromOne c.args.prefix) (from_one_fail c.args.prefix c.in-Some-Fail.call c.in-Some-Fail.fill is (omega (arith, c.if-call-eq0-2.false)))

pub returns-else-call-eq0-2-clause-counts : goal.returns-else-call-eq0-2-clause-counts
returns-else-call-eq0-2-clause-counts g c = λ most counting.
    let is : c.args.prefix ≡ Some (Fail c.in-Some-Fail.call c.in-Some-Fail.fill) = grind (arith, c.in-Some-Fail.is, c.in-Some-Fail.field-0-is, c.in-Some-Fail.call-is, c.in-Some-Fail.fill-is) in
    let now : Counts = record { calls = counting.calls; stop = stop_of counting.calls c.in-Some-Fail.call } in
    if_ok_map c.arm-in-Some-Fail.result (λ end. told_of (g.T.OverDisk.disk end) ≡ Some now) (λ end. Counting c.args.prefix most (told_of (g.T.OverDisk.disk end)))
    (λ end told. counting_fail c.args.prefix c.in-Some-Fail.call c.in-Some-Fail.fill most (told_of (g.T.OverDisk.disk end)) is (omega (arith, c.if-call-eq0-2.false)) counting.calls counting.few told)
    (c.arm-in-Some-Fail.ensures.counts (record { calls = counting.calls; stop = None }) counting.is)

pub returns-in-Some-CutAfter-clause-call : goal.returns-in-Some-CutAfter-clause-call
returns-in-Some-CutAfter-clause-call g c =
    let is : c.args.prefix ≡ Some CutAfter = grind (arith, c.in-Some-CutAfter.is, c.in-Some-CutAfter.field-0-is) in
    subst CountsFromOne (sym is) tt

pub returns-in-Some-CutAfter-clause-counts : goal.returns-in-Some-CutAfter-clause-counts
returns-in-Some-CutAfter-clause-counts g c = λ most counting.
    let is : c.args.prefix ≡ Some CutAfter = grind (arith, c.in-Some-CutAfter.is, c.in-Some-CutAfter.field-0-is) in
    subst (λ (p : Option Prefix). Counting p most (told_of (g.T.OverDisk.disk c.args.end))) (sym is) (record { calls = counting.calls; few = counting.few; is = counting.is })

pub returns-in-None-clause-call : goal.returns-in-None-clause-call
returns-in-None-clause-call g c = subst CountsFromOne (sym c.in-None.is) tt

pub returns-in-None-clause-counts : goal.returns-in-None-clause-counts
returns-in-None-clause-counts g c = λ most counting. subst (λ (p : Option Prefix). Counting p most (told_of (g.T.OverDisk.disk c.args.end))) (sym c.in-None.is) counting
