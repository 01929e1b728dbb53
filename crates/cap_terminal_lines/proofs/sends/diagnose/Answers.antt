use Rattle.std.proofs.Common.{◌≡◌, List, None, refl, subst}
use Rattle.cap_batch_msgs.specs.declared.body.BatchBody.TheVariants.{Diagnostic}
use Rattle.cap_msgs.specs.declared.message.Body.TheVariants.{Batch as Of_batch}
use Rattle.cap_entries.specs.declared.terminal.TermEntry.{TermEntry}
use Rattle.cap_entries.specs.Acked.{acked}
use Rattle.cap_terminal_answers.specs.Sends.{message_of, Diagnose}
use Rattle.cap_plays.specs.Turns.{Turn}
use Rattle.cap_terminal_lines.specs.Acts.{LineDone}
use Rattle.cap_terminal_lines.proofs.Quiet.{sent_line}
use Rattle.cap_terminal_lines.proofs.sends.diagnose.Goals as goal

pub returns : goal.returns
returns g c = λ heard s places armed ended before ready count.
    let J = g.J.Journal in
    let now = c.args.terminal.now in
    let is : J.entries now ≡ s.settled = ready.stands.end.entries_are refl in
    let L : Turn → Type 0 = λ v. LineDone J 0 now heard s places armed ended before v (c.send.result) in
    let made = c.diagnose.ensures in
    let is_message : c.diagnose.result ≡ message_of s.settled made.0 None (0) (Of_batch (Diagnostic (acked s.settled))) = subst (λ (l : List TermEntry). c.diagnose.result ≡ message_of l made.0 None (0) (Of_batch (Diagnostic (acked l)))) is made.2 in
    let line = sent_line J now heard s places armed ended before (Diagnose) c.args.moment c.args.sent made.0 (0) (Of_batch (Diagnostic (acked s.settled))) c.diagnose.result c.send.result ready count is_message c.send.ensures in
    (made.0, made.1, line)
