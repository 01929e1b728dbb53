use Rattle.std.proofs.Common.{◌≡◌, Option, Some, None, sym, subst, arith}
use Rattle.std.specs.Prelude.{IfOk}
use Rattle.cap_journal.specs.File.{Has}
use Rattle.cap_schedule.specs.declared.schedule.Prefix.{Prefix}
use Rattle.cap_schedule.specs.declared.schedule.Prefix.TheVariants.{Cut, Fail, CutAfter}
use Rattle.cap_power.specs.Images.{images_of}
use Rattle.cap_power.specs.Fates.{Opens}
use Rattle.cap_power.proofs.reopening.open_again.Goals as goal

pub returns-in-None-clause-opened : goal.returns-in-None-clause-opened
returns-in-None-clause-opened g c =
    let O = g.T.OverDisk in
    let is : c.args.prefix ≡ None = c.in-None.is in
    subst (λ (p : Option Prefix). IfOk c.open_whole.result (Opens (Has g.E.Record.reading) O.entries O.disk p (images_of c.args.disk))) (sym is) c.open_whole.ensures.opened

pub returns-in-None-clause-ready : goal.returns-in-None-clause-ready
returns-in-None-clause-ready g c = c.open_whole.ensures.ready

pub returns-in-Some-CutAfter-clause-opened : goal.returns-in-Some-CutAfter-clause-opened
returns-in-Some-CutAfter-clause-opened g c =
    let O = g.T.OverDisk in
    let is : c.args.prefix ≡ Some CutAfter = grind (arith, c.in-Some-CutAfter.is, c.in-Some-CutAfter.field-0-is) in
    subst (λ (p : Option Prefix). IfOk c.open_to_cut_after.result (Opens (Has g.E.Record.reading) O.entries O.disk p (images_of c.args.disk))) (sym is) c.open_to_cut_after.ensures.opened

pub returns-in-Some-CutAfter-clause-ready : goal.returns-in-Some-CutAfter-clause-ready
returns-in-Some-CutAfter-clause-ready g c = c.open_to_cut_after.ensures.ready

pub returns-in-1-clause-opened : goal.returns-in-1-clause-opened
returns-in-1-clause-opened g c =
    let O = g.T.OverDisk in
    let is : c.args.prefix ≡ Some (Cut 1 c.in-Some-Cut.fill) = grind (arith, c.in-Some-Cut.is, c.in-Some-Cut.field-0-is, c.in-Some-Cut.call-is, c.in-Some-Cut.fill-is, c.in-1.is) in
    subst (λ (p : Option Prefix). IfOk c.cut_at_sync.result (Opens (Has g.E.Record.reading) O.entries O.disk p (images_of c.args.disk))) (sym is) c.cut_at_sync.ensures.opened

pub returns-in-1-clause-ready : goal.returns-in-1-clause-ready
returns-in-1-clause-ready g c = c.cut_at_sync.ensures.ready

pub returns-in_default-clause-opened : goal.returns-in_default-clause-opened
returns-in_default-clause-opened g c =
    let O = g.T.OverDisk in
    let is : c.args.prefix ≡ Some (Cut c.in-Some-Cut.call c.in-Some-Cut.fill) = grind (arith, c.in-Some-Cut.is, c.in-Some-Cut.field-0-is, c.in-Some-Cut.call-is, c.in-Some-Cut.fill-is) in
    subst (λ (p : Option Prefix). IfOk c.open_to_cut.result (Opens (Has g.E.Record.reading) O.entries O.disk p (images_of c.args.disk))) (sym is) c.open_to_cut.ensures.opened

pub returns-in_default-clause-ready : goal.returns-in_default-clause-ready
returns-in_default-clause-ready g c = c.open_to_cut.ensures.ready

pub returns-in-1-call-clause-opened : goal.returns-in-1-call-clause-opened
returns-in-1-call-clause-opened g c =
    let O = g.T.OverDisk in
    let is : c.args.prefix ≡ Some (Fail 1 c.in-Some-Fail.fill) = grind (arith, c.in-Some-Fail.is, c.in-Some-Fail.field-0-is, c.in-Some-Fail.call-is, c.in-Some-Fail.fill-is, c.in-1-call.is) in
    subst (λ (p : Option Prefix). IfOk c.fail_at_sync.result (Opens (Has g.E.Record.reading) O.entries O.disk p (images_of c.args.disk))) (sym is) c.fail_at_sync.ensures.opened

pub returns-in-1-call-clause-ready : goal.returns-in-1-call-clause-ready
returns-in-1-call-clause-ready g c = c.fail_at_sync.ensures.ready

pub returns-in_default-call-clause-opened : goal.returns-in_default-call-clause-opened
returns-in_default-call-clause-opened g c =
    let O = g.T.OverDisk in
    let is : c.args.prefix ≡ Some (Fail c.in-Some-Fail.call c.in-Some-Fail.fill) = grind (arith, c.in-Some-Fail.is, c.in-Some-Fail.field-0-is, c.in-Some-Fail.call-is, c.in-Some-Fail.fill-is) in
    subst (λ (p : Option Prefix). IfOk c.open_to_fail.result (Opens (Has g.E.Record.reading) O.entries O.disk p (images_of c.args.disk))) (sym is) c.open_to_fail.ensures.opened

pub returns-in_default-call-clause-ready : goal.returns-in_default-call-clause-ready
returns-in_default-call-clause-ready g c = c.open_to_fail.ensures.ready
