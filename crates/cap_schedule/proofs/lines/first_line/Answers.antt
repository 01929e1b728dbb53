use Rattle.cap_schedule.proofs.Splitting.{first_at_feed, first_no_feed}
use Rattle.cap_schedule.proofs.lines.first_line.Goals as goal

pub returns-in-None-clause-lines : goal.returns-in-None-clause-lines
returns-in-None-clause-lines c =
    first_no_feed c.args.text.now c.split_at.result.0.now c.split_at.result.1.now c.requires (cc (c.line_feed.ensures, c.in-None.is)) c.split_at.ensures.front c.split_at.ensures.back

pub returns-in-Some-clause-lines : goal.returns-in-Some-clause-lines
returns-in-Some-clause-lines c =
    first_at_feed c.args.text.now c.split_at-in-Some.result.0.now c.split_at-in-Some.result.1.now c.split_at-in-Some-2.result.1.now c.strip.result.now c.in-Some.at
    (cc (c.line_feed.ensures, c.in-Some.is)) c.split_at-in-Some.ensures.front c.split_at-in-Some.ensures.back c.split_at-in-Some-2.ensures.back c.strip.ensures
