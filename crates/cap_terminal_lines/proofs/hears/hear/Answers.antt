use Rattle.std.proofs.Common.{◌≡◌, [], ◌++◌, Err, sym, subst}
use Rattle.std.specs.Prelude.{Result, OnOk}
use Rattle.cap_answering.specs.declared.fault.HostFault.{HostFault}
use Rattle.cap_answering.specs.declared.fault.HostFault.TheVariants.{Disk as HostDisk}
use Rattle.cap_terminal.specs.Adding.{take_as}
use Rattle.cap_terminal_answers.specs.Takes.{takes}
use Rattle.cap_terminal_answers.specs.declared.handled.TermFault.{TermFault}
use Rattle.cap_terminal_answers.specs.declared.handled.TermFault.TheVariants as F
use Rattle.cap_plays.specs.declared.fault.LineFault.{LineFault}
use Rattle.cap_plays.specs.Turns.{makes, decides_on}
use Rattle.cap_terminal_lines.specs.declared.said.Said.{Said}
use Rattle.cap_terminal_lines.specs.Acts.{LineDone}
use Rattle.cap_terminal_lines.specs.Hears.{refusal_of}
use Rattle.cap_terminal_lines.proofs.Hearing.{heard_ok, heard_err}
use Rattle.cap_terminal_lines.proofs.Steps.{works_behind}
use Rattle.cap_terminal_lines.proofs.hears.hear.Goals as goal

pub returns-in-Ok-clause-done : goal.returns-in-Ok-clause-done
returns-in-Ok-clause-done g c = λ received reads.
    let J = g.J.Journal in
    let e = c.in-Ok.ensures in
    let a = c.after_answer.ensures in
    heard_ok J g.met.J.Journal.kept g.met.J.Journal.counts_now g.met.J.Journal.told_is_readable c.args.terminal.now c.handle.new.self c.after_answer.new.terminal c.args.walks_out received c.in-Ok.handled c.after_answer.result
    (e.takes received reads) a.done a.says a.stays

pub returns-in-Ok-clause-works : goal.returns-in-Ok-clause-works
returns-in-Ok-clause-works g c =
    let J = g.J.Journal in
    works_behind c.after_answer.result (J.has_failed c.args.terminal.now) (J.has_failed c.handle.new.self) (J.has_failed c.after_answer.new.terminal) (c.in-Ok.ensures.stays.still (λ e. cc)) c.after_answer.ensures.works

pub returns-in-Err-clause-done : goal.returns-in-Err-clause-done
returns-in-Err-clause-done g c = λ received reads action heard s places armed ended before ready.
    let J = g.J.Journal in
    let e = c.in-Err.ensures in
    let old = c.args.terminal.now in
    let new = c.handle.new.self in
    subst (λ (r : Result Said LineFault). LineDone J 4 new heard s places armed ended before (makes (record { action = action; added = (takes s.settled received).added ++ (decides_on c.args.walks_out s.settled received).added; sent = [] }) (decides_on c.args.walks_out s.settled received).outcome) r) (sym c.refusal.ensures)
    (heard_err J g.met.J.Journal.kept g.met.J.Journal.counts_now g.met.J.Journal.told_is_readable old new c.args.walks_out received c.in-Err.fault (e.takes received reads) action heard s places armed ended before ready)

abbrev refused_as : TermFault → Result (Unit {0}) HostFault
refused_as fault = Err (take_as fault)

-- a refusal that the line answers is not the disk's
refusal_works : (fault : TermFault) (P : Type 0) → ((refused_as fault ≡ Err HostDisk → ⊥) → P) → OnOk (refusal_of fault) P
refusal_works F.Disk P still = tt
refusal_works F.Failed P still = tt
refusal_works F.Memory P still = tt
refusal_works (F.Unread fault) P still = still (λ x. cc)
refusal_works F.NotForUs P still = still (λ x. cc)
refusal_works (F.Rejected reason) P still = still (λ x. cc)
refusal_works F.NotAwaited P still = still (λ x. cc)
refusal_works (F.Stale m acked) P still = still (λ x. cc)
refusal_works (F.Beyond m len) P still = still (λ x. cc)

pub returns-in-Err-clause-works : goal.returns-in-Err-clause-works
returns-in-Err-clause-works g c =
    let J = g.J.Journal in
    let P : Type 0 = J.has_failed c.handle.new.self ≡ J.has_failed c.args.terminal.now in
    subst (λ (r : Result Said LineFault). OnOk r P) (sym c.refusal.ensures) (refusal_works c.in-Err.fault P (λ x. c.in-Err.ensures.stays.still x))
