-- What a line says to what its call answered.
use Rattle.std.specs.Prelude.{◌≡◌, ℕ, Option, Some, None, Result, Ok, Err, IfOk, IfErr, IsSomeAnd}
use Rattle.cap_host.specs.declared.publishing.PublishFault.{PublishFault}
use Rattle.cap_host.specs.declared.publishing.PublishFault.TheVariants as P
use Rattle.cap_answering.specs.declared.reply.Reply.{Reply}
use Rattle.cap_answering.specs.declared.reply.Reply.TheVariants as R
use Rattle.cap_answering.specs.declared.fault.HostFault.{HostFault}
use Rattle.cap_answering.specs.declared.fault.HostFault.TheVariants as H
use Rattle.cap_schedule.specs.declared.outcome.Outcome.TheVariants as O
use Rattle.cap_plays.specs.declared.fault.LineFault.{LineFault}
use Rattle.cap_plays.specs.declared.fault.LineFault.TheVariants.{Disk, Memory}
use Rattle.cap_host_lines.specs.declared.said.HostSaid.{HostSaid}
use Rattle.cap_host_lines.specs.declared.answer.Answer.{Answer}
use Rattle.cap_host_lines.specs.Texts.{IsRead, outcome_of, reply_of}

-- a reply that counts, at this place; one that doesn't
abbrev pub said_counted : ℕ → Result (Option Answer) LineFault → Result HostSaid LineFault
said_counted place (Ok given) = Ok (record { outcome = outcome_of (Some place) given; reply = reply_of given })
said_counted place (Err fault) = Err fault

abbrev pub said_dropped : Result (Option Answer) LineFault → Result HostSaid LineFault
said_dropped (Ok given) = Ok (record { outcome = outcome_of None given; reply = None })
said_dropped (Err fault) = Err fault

abbrev pub said_published : Result ℕ PublishFault → Result HostSaid LineFault
said_published (Ok version) = Ok (record { outcome = O.PublishedAs version; reply = None })
said_published (Err P.SetLimit) = Ok (record { outcome = O.SetLimit; reply = None })
said_published (Err P.Memory) = Err Memory
said_published (Err P.Disk) = Err Disk
said_published (Err P.Failed) = Err Disk

-- the reply was read back, or memory ran out
abbrev pub ReadAs : Result Reply HostFault → Result (Option Answer) LineFault → Type 0
ReadAs (Ok R.Silent) result = result ≡ Ok None
ReadAs (Ok (R.Bytes text)) result = IfOk result (λ given. IsSomeAnd given (λ answer. IsRead text answer)) × IfErr result (λ fault. fault ≡ Memory)
ReadAs (Err H.Memory) result = result ≡ Err Memory
ReadAs (Err H.Disk) result = result ≡ Err Disk
ReadAs (Err H.Failed) result = result ≡ Err Disk
