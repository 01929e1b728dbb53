use Rattle.std.proofs.Common.{◌≡◌, ℕ, subst}
use Rattle.cap_leaf.specs.Date.{DateParts}
use Rattle.cap_msgs.specs.declared.message.Body.{Body}
use Rattle.cap_msgs.specs.declared.message.Message.{Message}
use Rattle.cap_msgs.specs.Moment.{IsMoment, counter}
use Rattle.cap_entries.specs.Settings.{TerminalSettings}
use Rattle.cap_terminal_answers.specs.Sends.{Is_message}
use Rattle.cap_terminal.proofs.Failing.{items_in_front}
use Rattle.cap_terminal.proofs.terminal.Terminal.message.Goals as goal

abbrev IsBy : ℕ → ℕ → ℕ → Body → Message → TerminalSettings → Type 0
IsBy moment repeat number body message settings =
    (created : DateParts) × IsMoment moment created
    × (message ≡ record { header = record { exchange = number; repeat = counter repeat; created = created; from = settings.terminal; to = settings.host }; body = body })

pub returns-clause-message : goal.returns-clause-message
returns-clause-message g c =
    subst (λ (j : g.row.J.Denot). Is_message (g.J.Journal.entries j) c.args.moment c.args.repeat c.args.number c.args.body c.message_by.result) c.self.view_is
    (subst (IsBy c.args.moment c.args.repeat c.args.number c.args.body c.message_by.result) c.self.invariant.1
    (c.message_by.result.header.created, c.message_by.ensures.moment, c.message_by.ensures.message))

pub returns-clause-in_images : goal.returns-clause-in_images
returns-clause-in_images g c = λ told image left.
    let now = c.args.self.now in
    items_in_front (g.J.Journal.entries now) image (g.met.J.Journal.stands now image told left)
