use Rattle.std.proofs.Common.{◌≡◌, ℕ, ◌+◌, ◌^◌, ◌<◌, List, [], ◌∷◌, None, Ok, Err, refl, true, sym, subst, ap, ◌∙◌, arith}
use Rattle.std.specs.Prelude.{count_by, nat_lt, if◌then◌else◌}
use Rattle.std.proofs.lemmas.Bool.{false≢true, cond-true, cond-false, lt-ltb, le-ltb}
use Rattle.cap_entries.specs.declared.terminal.TermEntry.{TermEntry}
use Rattle.cap_entries.specs.declared.terminal.TermEntry.TheVariants.{Begin}
use Rattle.cap_entries.specs.Entry.{is_any_begin, max_of}
use Rattle.cap_sale.specs.Tokens.{BegunSale}
use Rattle.cap_schedule.specs.declared.outcome.Outcome.TheVariants as O
use Rattle.cap_terminal.specs.Adding.{begin_as}
use Rattle.cap_terminal.specs.Causes.{IsBeginCause}
use Rattle.cap_terminal.specs.declared.faults.BeginFault.{BeginFault}
use Rattle.cap_world.specs.World.{Begins}
use Rattle.cap_plays.specs.declared.fault.LineFault.TheVariants.{Disk}
use Rattle.cap_plays.specs.Turns.{Turn, worked, says, behind, begins, offline_turn, next_sale}
use Rattle.cap_journal.specs.Told.{counted}
use Rattle.cap_terminal_lines.specs.declared.said.Said.{Said}
use Rattle.cap_terminal_lines.specs.Acts.{LineDone}
use Rattle.cap_terminal_lines.proofs.Steps.{Left, left_of, added_by, grew, broke, rested, grown_ready, rested_ready, still_works, works_behind, said_line, line_behind, broken_line}
use Rattle.cap_terminal_lines.proofs.sales.sale.Goals as goal

pub complete_offline-requires : goal.complete_offline-requires
complete_offline-requires g c = c.in-Ok.ensures.live

pub returns-in-Ok-clause-done : goal.returns-in-Ok-clause-done
returns-in-Ok-clause-done g c = λ heard s places armed ended before ready.
    let J = g.J.Journal in
    let old = c.args.terminal.now in
    let new = c.begin.new.self in
    let last = c.complete_offline.new.terminal in
    let is : J.entries old ≡ s.settled = ready.stands.end.entries_are refl in
    let L : Turn → Type 0 = λ v. LineDone J 8 last heard s places armed ended before v (c.complete_offline.result) in
    let e = c.in-Ok.ensures in
    let next = next_sale (J.entries old) in
    let entry : TermEntry = Begin next c.args.amount c.args.account in
    let grows = grew J g.met.J.Journal.kept g.met.J.Journal.told_is_readable old new entry e.adds in
    let few : before.calls + 8 < 2 ^ 64 = ready.few in
    let grew = grows before ready.counts_are (omega (arith, few)) ready.told ready.works in
    let left : Left armed before = left_of armed before ready.is_armed grew.past in
    let action = Begins c.args.amount c.args.account in
    let rest : ℕ → Turn = λ n. offline_turn (worked s (added_by action entry)) n in
    let done = c.complete_offline.ensures.done heard (worked s (added_by action entry)) places left.left ended (counted 4 before) (grown_ready J 4 old new heard s places armed before (added_by action entry) left ready grew) in
    let done_next = subst (λ (n : ℕ). LineDone J 4 last heard (worked s (added_by action entry)) places left.left ended (counted 4 before) (rest n) c.complete_offline.result) (ap (λ (b : BegunSale). b.n) e.begun) done in
    subst (λ (l : List TermEntry). L (if nat_lt (count_by is_any_begin l) (max_of l) then behind (begins l c.args.amount c.args.account) (offline_turn (worked s (begins l c.args.amount c.args.account)) (next_sale l)) else says (O.Limit (max_of l)))) is
    (subst (λ (v : Turn). L v) (sym (cond-true (nat_lt (count_by is_any_begin (J.entries old)) (max_of (J.entries old))) _ _ (lt-ltb _ _ e.answers.1)))
    (line_behind J 4 last heard s places armed ended before left action entry (rest next) c.complete_offline.result done_next))

pub returns-in-Err-SaleLimit-clause-done : goal.returns-in-Err-SaleLimit-clause-done
returns-in-Err-SaleLimit-clause-done g c = λ heard s places armed ended before ready.
    let J = g.J.Journal in
    let old = c.args.terminal.now in
    let new = c.begin.new.self in
    let is : J.entries old ≡ s.settled = ready.stands.end.entries_are refl in
    let L : Turn → Type 0 = λ v. LineDone J 8 new heard s places armed ended before v (Ok c.quiet.result) in
    let e = c.in-Err-SaleLimit.ensures in
    let rests = rested J g.met.J.Journal.kept old new (Begin (next_sale (J.entries old)) c.args.amount c.args.account) (begin_as c.in-Err-SaleLimit.field-0) (ap begin_as c.in-Err-SaleLimit.field-0-is) e.adds before ready.counts_are (let f : before.calls + 8 < 2 ^ 64 = ready.few in omega (arith, f)) ready.told ready.works in
    let again = rested_ready J 8 old new heard s places armed before ready rests in
    let cause = subst (λ (f : BeginFault). IsBeginCause (J.has_failed old) (J.entries old) f) c.in-Err-SaleLimit.field-0-is e.refused in
    let told = c.quiet.ensures ∙ ap (λ (k : ℕ). let d : Said = record { outcome = O.Limit k; sent = None } in d) (cause.1) in
    subst (λ (l : List TermEntry). L (if nat_lt (count_by is_any_begin l) (max_of l) then behind (begins l c.args.amount c.args.account) (offline_turn (worked s (begins l c.args.amount c.args.account)) (next_sale l)) else says (O.Limit (max_of l)))) is
    (subst (λ (v : Turn). L v) (sym (cond-false (nat_lt (count_by is_any_begin (J.entries old)) (max_of (J.entries old))) _ _ (le-ltb _ _ cause.2)))
    (said_line J 8 new heard s places armed ended before (O.Limit (max_of (J.entries old))) c.quiet.result again told))

pub returns-in-Err-Disk-clause-done : goal.returns-in-Err-Disk-clause-done
returns-in-Err-Disk-clause-done g c = λ heard s places armed ended before ready.
    let J = g.J.Journal in
    let old = c.args.terminal.now in
    let new = c.begin.new.self in
    let is : J.entries old ≡ s.settled = ready.stands.end.entries_are refl in
    let L : Turn → Type 0 = λ v. LineDone J 8 new heard s places armed ended before v (Err Disk) in
    let e = c.in-Err-Disk.ensures in
    let entry : TermEntry = Begin (next_sale (J.entries old)) c.args.amount c.args.account in
    let may = subst (λ (f : BeginFault). IsBeginCause (J.has_failed old) (J.entries old) f) c.in-Err-Disk.field-0-is e.refused in
    let broken = broke J g.met.J.Journal.kept g.met.J.Journal.counts_now old new entry (begin_as c.in-Err-Disk.field-0) (ap begin_as c.in-Err-Disk.field-0-is) e.adds before ready.counts_are (let f : before.calls + 8 < 2 ^ 64 = ready.few in omega (arith, f)) ready.told ready.works in
    subst (λ (l : List TermEntry). L (if nat_lt (count_by is_any_begin l) (max_of l) then behind (begins l c.args.amount c.args.account) (offline_turn (worked s (begins l c.args.amount c.args.account)) (next_sale l)) else says (O.Limit (max_of l)))) is
    (subst (λ (v : Turn). L v) (sym (cond-true (nat_lt (count_by is_any_begin (J.entries old)) (max_of (J.entries old))) _ _ (lt-ltb _ _ may.1)))
    (broken_line J 8 8 old new heard s places armed ended before (Begins c.args.amount c.args.account) entry (offline_turn (worked s (begins (J.entries old) c.args.amount c.args.account)) (next_sale (J.entries old))) ready broken))

pub returns-in-Err-Failed-clause-done : goal.returns-in-Err-Failed-clause-done
returns-in-Err-Failed-clause-done g c = λ heard s places armed ended before ready.
    let J = g.J.Journal in
    let old = c.args.terminal.now in
    let failed : J.has_failed old ≡ true = subst (λ (f : BeginFault). IsBeginCause (J.has_failed old) (J.entries old) f) c.in-Err-Failed.field-0-is c.in-Err-Failed.ensures.refused in
    absurd (false≢true (sym ready.works ∙ failed))

pub returns-in-Err-Memory-clause-done : goal.returns-in-Err-Memory-clause-done
returns-in-Err-Memory-clause-done g c = λ heard s places armed ended before ready. tt

pub returns-in-Err-SaleLimit-clause-works : goal.returns-in-Err-SaleLimit-clause-works
returns-in-Err-SaleLimit-clause-works g c =
    let J = g.J.Journal in
    let old = c.args.terminal.now in
    still_works J old c.begin.new.self (Begin (next_sale (J.entries old)) c.args.amount c.args.account ∷ []) (begin_as c.in-Err-SaleLimit.field-0) (ap begin_as c.in-Err-SaleLimit.field-0-is) c.in-Err-SaleLimit.ensures.adds

pub returns-in-Ok-clause-works : goal.returns-in-Ok-clause-works
returns-in-Ok-clause-works g c =
    let J = g.J.Journal in
    works_behind c.complete_offline.result (J.has_failed c.args.terminal.now) (J.has_failed c.begin.new.self) (J.has_failed c.complete_offline.new.terminal) (c.in-Ok.ensures.adds.stays.still (λ e. cc)) c.complete_offline.ensures.works
