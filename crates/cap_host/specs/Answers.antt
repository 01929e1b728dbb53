-- What a call of a host that answers says.
use Rattle.std.specs.Prelude.{ℕ, ◌+◌, ◌≤◌, List, Result, IfOk}
use Rattle.cap_journal.specs.declared.journal.Journal.{Ghosts}
use Rattle.cap_msgs.specs.Received.{Received, Read, Unread}
use Rattle.cap_entries.specs.declared.host.HostEntry.{HostEntry}
use Rattle.cap_answering.specs.declared.fault.HostFault.{HostFault}
use Rattle.cap_host_answers.specs.Received.{answer_received}
use Rattle.cap_answering.specs.declared.reply.Reply.{Reply}
use Rattle.cap_host.specs.declared.host.Host.{Host}
use Rattle.cap_host.specs.Reply.{IsReply}
use Rattle.cap_host.specs.Host.{entries_of, fetched_of, fault_of, readings, Adds}

-- how many entries an answer reads back at most
abbrev pub readings_for : Received → ℕ
readings_for (Read message) = readings message.body
readings_for (Unread fault) = 0

module _ {J : Type 0} {g : Ghosts J HostEntry} where
  pub record Answers (old new : Host J g) (moment : ℕ) (received : Received) (result : Result Reply HostFault) : Type 0 where
    pub told : IfOk result (λ reply. IsReply (entries_of old) moment received (answer_received (entries_of old) received).reply reply)
    -- all that is to be added, as one group, or nothing
    pub adds : Adds old new (answer_received (entries_of old) received).added (fault_of result)
    pub fetched : fetched_of new ≤ fetched_of old + readings_for received
