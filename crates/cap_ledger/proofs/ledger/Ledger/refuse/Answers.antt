use Rattle.std.proofs.Common.{rules}
use Rattle.cap_ledger.specs.Laws.{refused_adds}
use Rattle.cap_ledger.proofs.ledger.Ledger.refuse.Goals as goal

pub returns-clause-adds : goal.returns-clause-adds
returns-clause-adds g c = λ added some. refused_adds c.args.self.now added c.requires some (λ told. record {
  later = search rules;
  each = λ image left. g.met.J.Journal.only_now c.args.self.now.journal image told left;
  before = λ t image le left. search rules;
})
