-- What a terminal makes of whatever arrives: the entries that it adds, and its answer.
use Rattle.std.specs.Prelude.{◌≡◌, ℕ, ◌+◌, Bool, true, false, ◌&&◌, not, nat_le, nat_lt, ◌==◌, if◌then◌else◌, List, [], ◌∷◌, length, Option, Some, Result, Ok, Err, slice_get, bytes_eq}
use Rattle.cap_base.specs.declared.parameters.ConfigPart.{ConfigPart}
use Rattle.cap_base.specs.declared.item.Item.{Item}
use Rattle.cap_base.specs.declared.item.Item.TheVariants.{Sale, Void, Cancel, Close}
use Rattle.cap_msgs.specs.declared.message.Message.{Message}
use Rattle.cap_msgs.specs.Received.{Received, Read, Unread}
use Rattle.cap_msgs.specs.Reply.{Reply, Rejects, Decides_sale, Decides_cancel, Tells_state, Gives_plan, Gives_part, Acknowledges, From_terminal, reply_of, Acknowledgement, Of_end, Of_cancel, Of_close, Of_items, acknowledges, agrees, named_item}
use Rattle.cap_entries.specs.declared.terminal.TermEntry.{TermEntry}
use Rattle.cap_entries.specs.declared.terminal.TermEntry.TheVariants.{Acked, Part}
use Rattle.cap_entries.specs.Entry.{term_setup_of}
use Rattle.cap_entries.specs.Items.{items}
use Rattle.cap_entries.specs.Acked.{acked}
use Rattle.cap_entries.specs.Allowed.{part_allowed}
use Rattle.cap_terminal_answers.specs.declared.handled.Handled.{Handled}
use Rattle.cap_terminal_answers.specs.declared.handled.Handled.TheVariants.{Authorisation, CancelAnswer, Diagnosed, Plan, Part as Part_handled, Acked as Acked_handled, Reconciled}
use Rattle.cap_terminal_answers.specs.declared.handled.TermFault.{TermFault}
use Rattle.cap_terminal_answers.specs.declared.handled.TermFault.TheVariants.{Unread as Unread_fault, NotForUs, Rejected, NotAwaited, Stale, Beyond}

pub record Taken : Type 0 where
  pub added : List TermEntry
  pub answer : Result Handled TermFault

-- an answer alone
abbrev pub tells : Handled → Taken
tells handled = record { added = []; answer = Ok handled }

abbrev pub refuses : TermFault → Taken
refuses fault = record { added = []; answer = Err fault }

-- a Sale or Void, a Cancel, a Close of this period
abbrev pub is_sale_or_void : Option Item → Bool
is_sale_or_void (Some (Sale n amount account code)) = true
is_sale_or_void (Some (Void n)) = true
is_sale_or_void _ = false

abbrev pub is_cancel_item : Option Item → Bool
is_cancel_item (Some (Cancel n amount)) = true
is_cancel_item _ = false

abbrev pub is_close_item : ℕ → Option Item → Bool
is_close_item p (Some (Close q totals)) = q == p
is_close_item p _ = false

-- the oldest item that isn't acknowledged
abbrev pub queue_head : List TermEntry → Option Item
queue_head entries = slice_get (items entries) (acked entries)

-- it names the oldest item, and is its sort of answer; an answer to a batch may name any item of the queue
abbrev pub is_awaited : List TermEntry → ℕ → Acknowledgement → Bool
is_awaited entries m (Of_end response) = (m == acked entries + 1) && is_sale_or_void (queue_head entries)
is_awaited entries m (Of_cancel response) = (m == acked entries + 1) && is_cancel_item (queue_head entries)
is_awaited entries m (Of_close response period totals) = (m == acked entries + 1) && is_close_item period (queue_head entries)
is_awaited entries m (Of_items response last) = true

abbrev pub acked_answer : ℕ → Acknowledgement → Handled
acked_answer m (Of_close response period totals) = Reconciled m totals (agrees (Of_close response period totals))
acked_answer m _ = Acked_handled m

-- an acknowledgement of the items up to m
abbrev pub take_acknowledgement : List TermEntry → ℕ → Acknowledgement → Taken
take_acknowledgement entries m ack =
    if not (acknowledges ack) then refuses NotAwaited
    else (if nat_le m (acked entries) then refuses (Stale m (acked entries))
    else (if nat_lt (length (items entries)) m then refuses (Beyond m (length (items entries)))
    else (if is_awaited entries m ack then record { added = Acked m ∷ []; answer = Ok (acked_answer m ack) }
    else refuses NotAwaited)))

-- a part of a parameter set
abbrev pub take_part : List TermEntry → ConfigPart → Taken
take_part entries part =
    if part_allowed entries part
    then record { added = Part part ∷ []; answer = Ok (Part_handled part.version part.part part.parts) }
    else refuses NotAwaited

-- what the host tells under this number
abbrev pub take_reply : List TermEntry → ℕ → Reply → Taken
take_reply entries number (Rejects reason) = refuses (Rejected reason)
take_reply entries number (Decides_sale response code) = tells (Authorisation (record { n = number; response = response; code = code }))
take_reply entries number (Decides_cancel response) = tells (CancelAnswer number response)
take_reply entries number (Tells_state last) = tells (Diagnosed last)
take_reply entries number (Gives_plan actions) = tells (Plan actions)
take_reply entries number (Gives_part part) = take_part entries part
take_reply entries number (Acknowledges ack) = take_acknowledgement entries (named_item number ack) ack
take_reply entries number From_terminal = refuses NotAwaited

-- it is from this terminal's host and to this terminal
abbrev pub is_for_us : List TermEntry → Message → Bool
is_for_us entries message =
    bytes_eq message.header.to (term_setup_of entries).terminal && bytes_eq message.header.from (term_setup_of entries).host

-- whatever arrives
abbrev pub takes : List TermEntry → Received → Taken
takes entries (Unread fault) = refuses (Unread_fault fault)
takes entries (Read message) =
    if is_for_us entries message then take_reply entries message.header.exchange (reply_of message.body) else refuses NotForUs

-- it isn't a message from this terminal's host to this terminal
abbrev pub IsNotOurs : List TermEntry → Received → Type 0
IsNotOurs entries (Unread fault) = Unit {0}
IsNotOurs entries (Read message) = is_for_us entries message ≡ false
