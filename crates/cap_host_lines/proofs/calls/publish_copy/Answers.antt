use Rattle.cap_host_lines.proofs.Steps.{published_by, published_on}
use Rattle.cap_host_lines.proofs.calls.publish_copy.Goals as goal

pub returns-clause-publishes : goal.returns-clause-publishes
returns-clause-publishes g c = λ before w.
    let e = c.publish-given.ensures in
    published_by c.args.host.now c.publish-given.new.self c.args.rows c.publish-given.result before w e.version e.answers e.refused e.adds e.limit (c.stands.ensures.in_all w.works w.told) c.stands-2.ensures.in_all
    (λ image told later left. g.met.J.Journal.counts_now c.publish-given.new.self.ledger.journal (g.J.Journal.moment c.args.host.now.ledger.journal) image told later left)

pub returns-clause-works : goal.returns-clause-works
returns-clause-works g c = published_on c.args.host.now c.publish-given.new.self c.args.rows c.publish-given.result c.publish-given.ensures.adds c.publish-given.ensures.limit
