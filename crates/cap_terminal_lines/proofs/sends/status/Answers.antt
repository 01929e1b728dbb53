use Rattle.std.proofs.Common.{◌≡◌, List, None, refl, subst}
use Rattle.cap_mgmt_msgs.specs.declared.body.MgmtBody.TheVariants.{Status}
use Rattle.cap_msgs.specs.declared.message.Body.TheVariants.{Management as Of_management}
use Rattle.cap_entries.specs.declared.terminal.TermEntry.{TermEntry}
use Rattle.cap_entries.specs.InForce.{version_in_force, staged_from, staged_version, staged_count}
use Rattle.cap_terminal_answers.specs.Sends.{message_of, Report_status}
use Rattle.cap_plays.specs.Turns.{Turn}
use Rattle.cap_terminal_lines.specs.Acts.{LineDone}
use Rattle.cap_terminal_lines.proofs.Quiet.{sent_line}
use Rattle.cap_terminal_lines.proofs.sends.status.Goals as goal

pub returns : goal.returns
returns g c = λ heard s places armed ended before ready count.
    let J = g.J.Journal in
    let now = c.args.terminal.now in
    let is : J.entries now ≡ s.settled = ready.stands.end.entries_are refl in
    let L : Turn → Type 0 = λ v. LineDone J 0 now heard s places armed ended before v (c.send.result) in
    let made = c.status_report.ensures.1 in
    let is_message : c.status_report.result ≡ message_of s.settled made.0 None (0) (Of_management (Status c.args.wanted (version_in_force s.settled) (staged_version (staged_from None s.settled)) (staged_count (staged_from None s.settled)))) = subst (λ (l : List TermEntry). c.status_report.result ≡ message_of l made.0 None (0) (Of_management (Status c.args.wanted (version_in_force l) (staged_version (staged_from None l)) (staged_count (staged_from None l))))) is made.2 in
    let line = sent_line J now heard s places armed ended before (Report_status c.args.wanted) c.args.moment c.args.sent made.0 (0) (Of_management (Status c.args.wanted (version_in_force s.settled) (staged_version (staged_from None s.settled)) (staged_count (staged_from None s.settled)))) c.status_report.result c.send.result ready count is_message c.send.ensures in
    (made.0, made.1, line)
