-- A host as an end that answers.
use Rattle.std.proofs.Common.{sym, ◌∙◌, ap, subst}
use Rattle.std.proofs.lemmas.Option.{none-some, same_Some}
use Rattle.std.proofs.lemmas.List.{take-append-drop}
use Rattle.std.specs.Prelude.{◌≡◌, ℕ, List, ◌++◌, length, take, drop, Option, Some, None, option_map}
use Rattle.cap_journal.specs.File.{Has}
use Rattle.cap_msgs.specs.Received.{Received}
use Rattle.cap_msgs.specs.Reads.{Reads}
use Rattle.cap_entries.specs.declared.host.HostEntry.{HostEntry}
use Rattle.cap_entries.specs.HostAllowed.{LegalHost}
use Rattle.cap_entries.specs.HostRecord.{host_reading}
use Rattle.cap_host_answers.specs.Received.{answer_received}
use Rattle.cap_host_answers.specs.StaysLegal.{answers_stay_legal}
use Rattle.cap_answering.specs.declared.reply.Reply.{Reply}
use Rattle.cap_host.specs.Reply.{IsReply}

-- these are the entries that a host with these entries adds for these bytes: what they read as is answered
abbrev pub HostAdds : List HostEntry → (moment : ℕ) → List ℕ → List HostEntry → Type 0
HostAdds entries moment bytes added = (received : Received) × Reads bytes received × (added ≡ (answer_received entries received).added)

-- and this is its reply: a text that is made at this moment, or silence
abbrev pub HostReplies : List HostEntry → (moment : ℕ) → List ℕ → Reply → Type 0
HostReplies entries moment bytes reply =
    (received : Received) × Reads bytes received × IsReply entries moment received (answer_received entries received).reply reply

-- the image of a disk has exactly these entries
abbrev pub HostHas : List ℕ → List HostEntry → Type 0
HostHas image list = Has host_reading image list

-- an image whose entries begin with these has them and some more
pub front_more : {E : Type 0} (found : Option (List E)) (list : List E) → option_map (take (length list)) found ≡ Some list → (more : List E) × (found ≡ Some (list ++ more))
front_more None list is = absurd (none-some list is)
front_more (Some all) list is =
    (drop (length list) all, ap (λ l. Some l) (sym (take-append-drop (length list) all) ∙ ap (λ l. l ++ drop (length list) all) (same_Some (take (length list) all) list is)))

-- each front of what it adds leaves legal entries legal
pub adds_stay_legal : (entries : List HostEntry) (moment : ℕ) (bytes : List ℕ) (added : List HostEntry) (kept : ℕ) → LegalHost entries → HostAdds entries moment bytes added → LegalHost (entries ++ take kept added)
adds_stay_legal entries moment bytes added kept legal (received, reads, is) =
    subst (λ l. LegalHost (entries ++ take kept l)) (sym is) (answers_stay_legal entries received kept legal)
