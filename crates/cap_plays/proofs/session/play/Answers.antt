use Rattle.std.proofs.Common.{subst}
use Rattle.std.specs.Prelude.{[]}
use Rattle.cap_plays.specs.Session.{ActedAll}
use Rattle.cap_plays.proofs.Sessions.{played_all}
use Rattle.cap_plays.proofs.session.play.Goals as goal

pub returns : goal.returns
returns g c =
    played_all (g.N.Network.corresponds c.act_all.new.network) (g.N.Network.corresponds c.reopen_all.new.network) (g.N.Network.corresponds c.put_report.new.self) c.args.schedule.now c.act_all.new.text.items c.put_report.new.text.items c.requires.range
    (subst (λ before. ActedAll (g.N.Network.corresponds c.act_all.new.network) c.args.schedule.now [] before c.act_all.new.text.items) c.new-text.ensures.items c.in_ok-act_all.ensures)
    c.in_ok-reopen_all.ensures c.in_ok-put_report.ensures c.every_play_agrees.ensures c.every_play_ends_on.ensures
