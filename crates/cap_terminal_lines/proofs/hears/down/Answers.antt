use Rattle.std.proofs.Common.{ℕ, List, Option, Ok, sym, subst}
use Rattle.cap_msgs.specs.declared.message.Message.{Message}
use Rattle.cap_msgs.specs.Received.{Read}
use Rattle.cap_msgs.specs.Reads.{Reads}
use Rattle.cap_schedule.specs.declared.outcome.Outcome.TheVariants as O
use Rattle.cap_world.specs.World.{Takes_answer}
use Rattle.cap_plays.specs.Turns.{Turn, decides_on, hears, hears_it}
use Rattle.cap_plays.specs.Answers.{counted_nth, counted_nth_past}
use Rattle.cap_plays.specs.Texts.{texts_in}
use Rattle.cap_terminal_lines.specs.Acts.{LineDone}
use Rattle.cap_terminal_lines.proofs.Steps.{said_line}
use Rattle.cap_terminal_lines.proofs.TextsAt.{text_there, text_past}
use Rattle.cap_terminal_lines.proofs.hears.down.Goals as goal

pub returns-in-Some-clause-done : goal.returns-in-Some-clause-done
returns-in-Some-clause-done g c = λ heard s places armed ended before ready texts.
    let J = g.J.Journal in
    let j = c.args.j in
    let w = c.args.walks_out in
    let new = c.hear.new.terminal in
    let found = text_there (texts_in c.args.answers.now) heard j c.in-Some.text.now texts c.in-Some.ensures in
    let message = found.0 in
    let reads = subst (λ (t : List ℕ). Reads t (Read message)) (sym found.2.text_is) (c.texts_read_again.ensures.again message found.2.spellable) in
    let place = counted_nth s.answers places heard j message ready.stands.answers_are found.1 in
    let line = c.hear.ensures.done (Read message) reads (Takes_answer place.0 (decides_on w s.settled (Read message)).decision) heard s places armed ended before ready in
    let L : Turn → Type 0 = λ v. LineDone J 4 new heard s places armed ended before v c.hear.result in
    subst (λ (o : Option ℕ). L (hears w s j o)) (sym place.1) (subst (λ (o : Option Message). L (hears_it w s j place.0 o)) (sym place.2) line)

pub returns-in-None-clause-done : goal.returns-in-None-clause-done
returns-in-None-clause-done g c = λ heard s places armed ended before ready texts.
    let J = g.J.Journal in
    let j = c.args.j in
    let none = counted_nth_past s.answers places heard j ready.stands.answers_are (text_past (texts_in c.args.answers.now) heard j texts c.in-None.ensures) in
    let L : Turn → Type 0 = λ v. LineDone J 4 c.args.terminal.now heard s places armed ended before v (Ok c.quiet.result) in
    subst (λ (o : Option ℕ). L (hears c.args.walks_out s j o)) (sym none) (said_line J 4 c.args.terminal.now heard s places armed ended before (O.NoMessage j) c.quiet.result ready c.quiet.ensures)
