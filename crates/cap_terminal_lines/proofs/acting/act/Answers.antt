use Rattle.std.proofs.Common.{◌≡◌, ℕ, ◌≤◌, List, [], refl, false, sym, subst, arith}
use Rattle.cap_entries.specs.declared.terminal.TermEntry.{TermEntry}
use Rattle.cap_terminal_answers.specs.Takes.{IsNotOurs}
use Rattle.cap_schedule.specs.declared.schedule.Order.{Order}
use Rattle.cap_schedule.specs.declared.schedule.Order.TheVariants as T
use Rattle.cap_world.specs.World.{Hears_foreign}
use Rattle.cap_plays.specs.Turns.{makes, decides_on, turn_of}
use Rattle.cap_schedule.specs.Ranges.{OrderInRange}
use Rattle.cap_plays.specs.Laws.{wanted_in_range}
use Rattle.cap_terminal_lines.specs.Acts.{IsNoiseTo, LineDone}
use Rattle.cap_terminal_lines.proofs.Hearing.{noise_adds_nothing}
use Rattle.cap_terminal_lines.proofs.Weaker.{less_ready, more_line}
use Rattle.cap_terminal_lines.proofs.acting.act.Goals as goal

four : 4 ≤ 8
four = omega arith

all : 8 ≤ 8
all = omega arith

none : 0 ≤ 8
none = omega arith

pub batch-requires-clause-low : goal.batch-requires-clause-low
batch-requires-clause-low g c = (subst (λ (o : Order). OrderInRange o) c.in-Batch.is c.requires.range).0

pub batch-requires-clause-high : goal.batch-requires-clause-high
batch-requires-clause-high g c = (subst (λ (o : Order). OrderInRange o) c.in-Batch.is c.requires.range).1

pub status-requires-clause-wanted : goal.status-requires-clause-wanted
status-requires-clause-wanted g c = wanted_in_range c.in-Status.wanted (subst (λ (o : Order). OrderInRange o) c.in-Status.is c.requires.range)

pub returns-in-Begin-clause-acts : goal.returns-in-Begin-clause-acts
returns-in-Begin-clause-acts g c = λ reads heard s places armed ended before reader ready count texts noise.
    let J = g.J.Journal in
    let old = c.args.terminal.now in
    let new = c.begin.new.terminal in
    let created = c.date_of.ensures.0 in
    let line = c.begin.ensures.done heard s places armed ended before (less_ready J 4 8 old heard s places armed before four ready) in
    (created, c.date_of.ensures.1, subst (λ (o : Order). LineDone J 8 new heard s places armed ended before (turn_of reads s places c.args.moment created o) c.begin.result) (sym c.in-Begin.is) (more_line J 4 8 new heard s places armed ended before _ c.begin.result four line))

pub returns-in-Offline-clause-acts : goal.returns-in-Offline-clause-acts
returns-in-Offline-clause-acts g c = λ reads heard s places armed ended before reader ready count texts noise.
    let J = g.J.Journal in
    let old = c.args.terminal.now in
    let new = c.offline.new.terminal in
    let created = c.date_of.ensures.0 in
    let line = c.offline.ensures.done heard s places armed ended before (less_ready J 4 8 old heard s places armed before four ready) in
    (created, c.date_of.ensures.1, subst (λ (o : Order). LineDone J 8 new heard s places armed ended before (turn_of reads s places c.args.moment created o) c.offline.result) (sym c.in-Offline.is) (more_line J 4 8 new heard s places armed ended before _ c.offline.result four line))

pub returns-in-Sale-clause-acts : goal.returns-in-Sale-clause-acts
returns-in-Sale-clause-acts g c = λ reads heard s places armed ended before reader ready count texts noise.
    let J = g.J.Journal in
    let old = c.args.terminal.now in
    let new = c.sale.new.terminal in
    let created = c.date_of.ensures.0 in
    let line = c.sale.ensures.done heard s places armed ended before (less_ready J 8 8 old heard s places armed before all ready) in
    (created, c.date_of.ensures.1, subst (λ (o : Order). LineDone J 8 new heard s places armed ended before (turn_of reads s places c.args.moment created o) c.sale.result) (sym c.in-Sale.is) (more_line J 8 8 new heard s places armed ended before _ c.sale.result all line))

pub returns-in-Void-clause-acts : goal.returns-in-Void-clause-acts
returns-in-Void-clause-acts g c = λ reads heard s places armed ended before reader ready count texts noise.
    let J = g.J.Journal in
    let old = c.args.terminal.now in
    let new = c.void.new.terminal in
    let created = c.date_of.ensures.0 in
    let line = c.void.ensures.done heard s places armed ended before (less_ready J 4 8 old heard s places armed before four ready) in
    (created, c.date_of.ensures.1, subst (λ (o : Order). LineDone J 8 new heard s places armed ended before (turn_of reads s places c.args.moment created o) c.void.result) (sym c.in-Void.is) (more_line J 4 8 new heard s places armed ended before _ c.void.result four line))

pub returns-in-Cancel-clause-acts : goal.returns-in-Cancel-clause-acts
returns-in-Cancel-clause-acts g c = λ reads heard s places armed ended before reader ready count texts noise.
    let J = g.J.Journal in
    let old = c.args.terminal.now in
    let new = c.cancel.new.terminal in
    let created = c.date_of.ensures.0 in
    let line = c.cancel.ensures.done heard s places armed ended before (less_ready J 4 8 old heard s places armed before four ready) in
    (created, c.date_of.ensures.1, subst (λ (o : Order). LineDone J 8 new heard s places armed ended before (turn_of reads s places c.args.moment created o) c.cancel.result) (sym c.in-Cancel.is) (more_line J 4 8 new heard s places armed ended before _ c.cancel.result four line))

pub returns-in-Close-clause-acts : goal.returns-in-Close-clause-acts
returns-in-Close-clause-acts g c = λ reads heard s places armed ended before reader ready count texts noise.
    let J = g.J.Journal in
    let old = c.args.terminal.now in
    let new = c.close.new.terminal in
    let created = c.date_of.ensures.0 in
    let line = c.close.ensures.done heard s places armed ended before (less_ready J 4 8 old heard s places armed before four ready) in
    (created, c.date_of.ensures.1, subst (λ (o : Order). LineDone J 8 new heard s places armed ended before (turn_of reads s places c.args.moment created o) c.close.result) (sym c.in-Close.is) (more_line J 4 8 new heard s places armed ended before _ c.close.result four line))

pub returns-in-Push-clause-acts : goal.returns-in-Push-clause-acts
returns-in-Push-clause-acts g c = λ reads heard s places armed ended before reader ready count texts noise.
    let J = g.J.Journal in
    let old = c.args.terminal.now in
    let new = old in
    let created = c.date_of.ensures.0 in
    let line = c.push.ensures heard s places armed ended before (less_ready J 0 8 old heard s places armed before none ready) count in
    (line.0, line.1, subst (λ (o : Order). LineDone J 8 new heard s places armed ended before (turn_of reads s places c.args.moment line.0 o) c.push.result) (sym c.in-Push.is) (more_line J 0 8 new heard s places armed ended before _ c.push.result none line.2))

pub returns-in-Batch-clause-acts : goal.returns-in-Batch-clause-acts
returns-in-Batch-clause-acts g c = λ reads heard s places armed ended before reader ready count texts noise.
    let J = g.J.Journal in
    let old = c.args.terminal.now in
    let new = old in
    let created = c.date_of.ensures.0 in
    let line = c.batch.ensures heard s places armed ended before (less_ready J 0 8 old heard s places armed before none ready) count in
    (line.0, line.1, subst (λ (o : Order). LineDone J 8 new heard s places armed ended before (turn_of reads s places c.args.moment line.0 o) c.batch.result) (sym c.in-Batch.is) (more_line J 0 8 new heard s places armed ended before _ c.batch.result none line.2))

pub returns-in-Ask-clause-acts : goal.returns-in-Ask-clause-acts
returns-in-Ask-clause-acts g c = λ reads heard s places armed ended before reader ready count texts noise.
    let J = g.J.Journal in
    let old = c.args.terminal.now in
    let new = old in
    let created = c.date_of.ensures.0 in
    let line = c.ask.ensures heard s places armed ended before (less_ready J 0 8 old heard s places armed before none ready) count in
    (line.0, line.1, subst (λ (o : Order). LineDone J 8 new heard s places armed ended before (turn_of reads s places c.args.moment line.0 o) c.ask.result) (sym c.in-Ask.is) (more_line J 0 8 new heard s places armed ended before _ c.ask.result none line.2))

pub returns-in-AskCancel-clause-acts : goal.returns-in-AskCancel-clause-acts
returns-in-AskCancel-clause-acts g c = λ reads heard s places armed ended before reader ready count texts noise.
    let J = g.J.Journal in
    let old = c.args.terminal.now in
    let new = old in
    let created = c.date_of.ensures.0 in
    let line = c.ask_cancel.ensures heard s places armed ended before (less_ready J 0 8 old heard s places armed before none ready) count in
    (line.0, line.1, subst (λ (o : Order). LineDone J 8 new heard s places armed ended before (turn_of reads s places c.args.moment line.0 o) c.ask_cancel.result) (sym c.in-AskCancel.is) (more_line J 0 8 new heard s places armed ended before _ c.ask_cancel.result none line.2))

pub returns-in-Diagnose-clause-acts : goal.returns-in-Diagnose-clause-acts
returns-in-Diagnose-clause-acts g c = λ reads heard s places armed ended before reader ready count texts noise.
    let J = g.J.Journal in
    let old = c.args.terminal.now in
    let new = old in
    let created = c.date_of.ensures.0 in
    let line = c.diagnose.ensures heard s places armed ended before (less_ready J 0 8 old heard s places armed before none ready) count in
    (line.0, line.1, subst (λ (o : Order). LineDone J 8 new heard s places armed ended before (turn_of reads s places c.args.moment line.0 o) c.diagnose.result) (sym c.in-Diagnose.is) (more_line J 0 8 new heard s places armed ended before _ c.diagnose.result none line.2))

pub returns-in-Status-clause-acts : goal.returns-in-Status-clause-acts
returns-in-Status-clause-acts g c = λ reads heard s places armed ended before reader ready count texts noise.
    let J = g.J.Journal in
    let old = c.args.terminal.now in
    let new = old in
    let created = c.date_of.ensures.0 in
    let line = c.status.ensures heard s places armed ended before (less_ready J 0 8 old heard s places armed before none ready) count in
    (line.0, line.1, subst (λ (o : Order). LineDone J 8 new heard s places armed ended before (turn_of reads s places c.args.moment line.0 o) c.status.result) (sym c.in-Status.is) (more_line J 0 8 new heard s places armed ended before _ c.status.result none line.2))

pub returns-in-Down-clause-acts : goal.returns-in-Down-clause-acts
returns-in-Down-clause-acts g c = λ reads heard s places armed ended before reader ready count texts noise.
    let J = g.J.Journal in
    let old = c.args.terminal.now in
    let new = c.down.new.terminal in
    let created = c.date_of.ensures.0 in
    let line = c.down.ensures.done heard s places armed ended before (less_ready J 4 8 old heard s places armed before four ready) texts in
    (created, c.date_of.ensures.1, subst (λ (o : Order). LineDone J 8 new heard s places armed ended before (turn_of reads s places c.args.moment created o) c.down.result) (sym c.in-Down.is) (more_line J 4 8 new heard s places armed ended before _ c.down.result four line))

pub returns-in-Walkout-clause-acts : goal.returns-in-Walkout-clause-acts
returns-in-Walkout-clause-acts g c = λ reads heard s places armed ended before reader ready count texts noise.
    let J = g.J.Journal in
    let old = c.args.terminal.now in
    let new = c.down-in-Walkout.new.terminal in
    let created = c.date_of.ensures.0 in
    let line = c.down-in-Walkout.ensures.done heard s places armed ended before (less_ready J 4 8 old heard s places armed before four ready) texts in
    (created, c.date_of.ensures.1, subst (λ (o : Order). LineDone J 8 new heard s places armed ended before (turn_of reads s places c.args.moment created o) c.down-in-Walkout.result) (sym c.in-Walkout.is) (more_line J 4 8 new heard s places armed ended before _ c.down-in-Walkout.result four line))

pub returns-in-Hear-clause-acts : goal.returns-in-Hear-clause-acts
returns-in-Hear-clause-acts g c = λ reads heard s places armed ended before reader ready count texts noise.
    let J = g.J.Journal in
    let old = c.args.terminal.now in
    let new = c.hear.new.terminal in
    let created = c.date_of.ensures.0 in
    let text = c.as_slice.result.now in
    let received = reads text in
    let is : J.entries old ≡ s.settled = ready.stands.end.entries_are refl in
    let foreign = subst (λ (b : List ℕ). IsNotOurs (J.entries old) (reads b)) (sym c.as_slice.ensures) (subst (λ (o : Order). IsNoiseTo reads (J.entries old) o) c.in-Hear.is noise) in
    let nothing = noise_adds_nothing s.settled received (subst (λ (l : List TermEntry). IsNotOurs l received) is foreign) in
    let line = c.hear.ensures.done received (reader text) (Hears_foreign received) heard s places armed ended before (less_ready J 4 8 old heard s places armed before four ready) in
    let noise_line = subst (λ (l : List TermEntry). LineDone J 4 new heard s places armed ended before (makes (record { action = Hears_foreign received; added = l; sent = [] }) (decides_on false s.settled received).outcome) c.hear.result) nothing line in
    let more = more_line J 4 8 new heard s places armed ended before _ c.hear.result four noise_line in
    (created, c.date_of.ensures.1, subst (λ (o : Order). LineDone J 8 new heard s places armed ended before (turn_of reads s places c.args.moment created o) c.hear.result) (sym c.in-Hear.is) (subst (λ (b : List ℕ). LineDone J 8 new heard s places armed ended before (turn_of reads s places c.args.moment created (T.Hear b)) c.hear.result) c.as_slice.ensures more))
