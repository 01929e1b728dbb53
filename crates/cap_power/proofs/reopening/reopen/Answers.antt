use Rattle.std.proofs.Common.{ℕ, true, false, [], subst}
use Rattle.cap_journal.specs.File.{Has}
use Rattle.cap_plays.specs.Plays.{MayKeep}
use Rattle.cap_plays.specs.Corresponds.{EndCorresponds}
use Rattle.cap_plays.specs.Holding.{holds_fewer}
use Rattle.cap_power.specs.Images.{images_of, no_others_left}
use Rattle.cap_power.specs.Standing.{Stands}
use Rattle.cap_power.specs.Fates.{opening, MeetsFate, Opens}
use Rattle.cap_power.proofs.Disks.{if_ok_map}
use Rattle.cap_power.proofs.reopening.reopen.Goals as goal

pub returns-in-On-clause-opened : goal.returns-in-On-clause-opened
returns-in-On-clause-opened g c = λ settled tried is_on doubt stands.
    let O = g.T.OverDisk in
    let has = Has g.E.Record.reading in
    let end = c.in-On.end in
    let found : EndCorresponds has (images_of (O.disk end)) true (O.entries end) settled tried is_on doubt = subst (λ p. Stands has O.entries O.disk p settled tried is_on doubt) c.in-On.is stands in
    let holds = holds_fewer has (images_of (O.disk end)) (images_of c.disk_of.result) settled tried doubt found.holds (no_others_left false (O.disk end) c.disk_of.result c.disk_of.ensures) in
    if_ok_map c.open_again.result (Opens has O.entries O.disk c.args.prefix (images_of c.disk_of.result))
    (λ after. (kept : ℕ) × MayKeep doubt kept × MeetsFate has O.entries O.disk after (opening c.args.prefix doubt kept settled tried)) (λ after opens. opens settled tried doubt holds) c.open_again.ensures.opened

pub returns-in-On-clause-ready : goal.returns-in-On-clause-ready
returns-in-On-clause-ready g c = c.open_again.ensures.ready

pub returns-in-Off-clause-opened : goal.returns-in-Off-clause-opened
returns-in-Off-clause-opened g c = λ settled tried is_on doubt stands.
    let O = g.T.OverDisk in
    let has = Has g.E.Record.reading in
    let found : EndCorresponds has (images_of c.in-Off.disk) false [] settled tried is_on doubt = subst (λ p. Stands has O.entries O.disk p settled tried is_on doubt) c.in-Off.is stands in
    if_ok_map c.open_again-in-Off.result (Opens has O.entries O.disk c.args.prefix (images_of c.in-Off.disk))
    (λ after. (kept : ℕ) × MayKeep doubt kept × MeetsFate has O.entries O.disk after (opening c.args.prefix doubt kept settled tried)) (λ after opens. opens settled tried doubt found.holds) c.open_again-in-Off.ensures.opened

pub returns-in-Off-clause-ready : goal.returns-in-Off-clause-ready
returns-in-Off-clause-ready g c = c.open_again-in-Off.ensures.ready
