use Rattle.cap_host.proofs.host.Host.stands.Goals as goal

pub returns-clause-in_images : goal.returns-clause-in_images
returns-clause-in_images g c = λ told image left. g.met.J.Journal.stands c.args.self.now.ledger.journal image told left

pub returns-clause-in_all : goal.returns-clause-in_all
returns-clause-in_all g c = λ works told image left. g.met.J.Journal.kept c.args.self.now.ledger.journal image told (c.args.self.now.ledger.works works) left
