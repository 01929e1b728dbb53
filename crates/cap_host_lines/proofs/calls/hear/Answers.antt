use Rattle.cap_host.specs.Host.{fault_of}
use Rattle.cap_host_lines.proofs.Steps.{changed, heard_on}
use Rattle.cap_host_lines.proofs.calls.hear.Goals as goal

pub returns-clause-changes : goal.returns-clause-changes
returns-clause-changes g c = λ received reads before w.
    let answers = c.answer-given.ensures received reads in
    changed c.args.host.now c.answer-given.new.self _ (fault_of c.answer-given.result) before w answers.adds (c.stands.ensures.in_all w.works w.told) c.stands-2.ensures.in_all
    (λ image told later left. g.met.J.Journal.counts_now c.answer-given.new.self.ledger.journal (g.J.Journal.moment c.args.host.now.ledger.journal) image told later left)

pub returns-clause-works : goal.returns-clause-works
returns-clause-works g c =
    let some = c.reading_is_exact.ensures.some c.args.text.now in
    heard_on c.args.host.now c.answer-given.new.self _ c.answer-given.result (c.answer-given.ensures some.0 some.1).adds
