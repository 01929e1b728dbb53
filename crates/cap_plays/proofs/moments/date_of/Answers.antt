use Rattle.cap_plays.proofs.moments.date_of.Goals as goal

pub returns : goal.returns
returns c = (c.utc.result, record { seconds = c.utc.ensures.moment; millis = c.utc.ensures.millis; zone = c.utc.ensures.zone })
