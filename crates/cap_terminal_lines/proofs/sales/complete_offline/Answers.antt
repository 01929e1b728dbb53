use Rattle.std.proofs.Common.{◌≡◌, ℕ, ◌≤◌, List, None, Ok, refl, false, sym, subst, ap, ◌∙◌}
use Rattle.std.specs.Prelude.{nat_le, if◌then◌else◌}
use Rattle.std.proofs.lemmas.Bool.{false≢true, false_from_ne_true, cond-true, cond-false, le-leb, leb-true}
use Rattle.cap_entries.specs.declared.terminal.TermEntry.{TermEntry}
use Rattle.cap_entries.specs.declared.terminal.TermEntry.TheVariants.{Completed}
use Rattle.cap_entries.specs.Entry.{is_pending, amount_of}
use Rattle.cap_entries.specs.Floor.{floor}
use Rattle.cap_sale.specs.declared.tokens.AboveFloor.{AboveFloor}
use Rattle.cap_sale.specs.Tokens.{BegunSale, ApprovedSale}
use Rattle.cap_schedule.specs.declared.outcome.Outcome.TheVariants as O
use Rattle.cap_terminal.specs.Live.{IsLive}
use Rattle.cap_world.specs.World.{Offline}
use Rattle.cap_plays.specs.Turns.{Turn, makes, says, adds, completes_offline}
use Rattle.cap_terminal_lines.specs.declared.said.Said.{Said}
use Rattle.cap_terminal_lines.specs.Acts.{LineDone}
use Rattle.cap_terminal_lines.proofs.Steps.{said_line}
use Rattle.cap_terminal_lines.proofs.sales.complete_offline.Goals as goal

pub complete-requires : goal.complete-requires
complete-requires g c =
    let J = g.J.Journal in
    subst (λ (a : ApprovedSale). IsLive (J.entries c.args.terminal.now) a.n a.amount a.account) (sym c.in-Ok.ensures.approved) c.requires

pub returns-in-Ok-clause-done : goal.returns-in-Ok-clause-done
returns-in-Ok-clause-done g c = λ heard s places armed ended before ready.
    let J = g.J.Journal in
    let old = c.args.terminal.now in
    let n = c.args.begun.n in
    let is : J.entries old ≡ s.settled = ready.stands.end.entries_are refl in
    let L : Turn → Type 0 = λ v. LineDone J 4 c.complete.new.terminal heard s places armed ended before v (c.complete.result) in
    let amount : c.args.begun.amount ≡ amount_of (J.entries old) n = c.requires.amount_is in
    let le : amount_of (J.entries old) n ≤ floor (J.entries old) = subst (λ (a : ℕ). a ≤ floor (J.entries old)) amount (c.in-Ok.ensures.exact.0 refl) in
    let line = subst (λ (a : ApprovedSale). L (makes (adds (Offline n) (Completed a.n a.code)) (O.Sold a.n))) c.in-Ok.ensures.approved (c.complete.ensures.done (Offline n) heard s places armed ended before ready) in
    subst (λ (l : List TermEntry). L (if is_pending l c.args.begun.n then (if nat_le (amount_of l c.args.begun.n) (floor l) then makes (completes_offline c.args.begun.n) (O.Sold c.args.begun.n) else says (O.AboveFloor c.args.begun.n)) else says (O.NotPending c.args.begun.n))) is
    (subst (λ (v : Turn). L v) (sym (cond-true (is_pending (J.entries old) n) _ _ c.requires.pending ∙ cond-true (nat_le (amount_of (J.entries old) n) (floor (J.entries old))) _ _ (le-leb _ _ le)))
    line)

pub returns-in-Err-clause-done : goal.returns-in-Err-clause-done
returns-in-Err-clause-done g c = λ heard s places armed ended before ready.
    let J = g.J.Journal in
    let old = c.args.terminal.now in
    let n = c.args.begun.n in
    let is : J.entries old ≡ s.settled = ready.stands.end.entries_are refl in
    let L : Turn → Type 0 = λ v. LineDone J 4 old heard s places armed ended before v (Ok c.quiet.result) in
    let amount : c.args.begun.amount ≡ amount_of (J.entries old) n = c.requires.amount_is in
    let not_le : nat_le (amount_of (J.entries old) n) (floor (J.entries old)) ≡ false = false_from_ne_true _ (λ t. false≢true (c.in-Err.ensures.exact.1 (subst (λ (a : ℕ). a ≤ floor (J.entries old)) (sym amount) (leb-true _ _ t)))) in
    let a = c.n-n.ensures in
    let b = ap (λ (x : BegunSale). x.n) c.in-Err.begun-is in
    let d = ap (λ (x : AboveFloor). x.begun.n) c.in-Err.ensures.above in
    let number : c.n-n.result ≡ n = cc in
    let told = c.quiet.ensures ∙ ap (λ (k : ℕ). let d : Said = record { outcome = O.AboveFloor k; sent = None } in d) number in
    let line = said_line J 4 old heard s places armed ended before (O.AboveFloor n) c.quiet.result ready told in
    subst (λ (l : List TermEntry). L (if is_pending l c.args.begun.n then (if nat_le (amount_of l c.args.begun.n) (floor l) then makes (completes_offline c.args.begun.n) (O.Sold c.args.begun.n) else says (O.AboveFloor c.args.begun.n)) else says (O.NotPending c.args.begun.n))) is
    (subst (λ (v : Turn). L v) (sym (cond-true (is_pending (J.entries old) n) _ _ c.requires.pending ∙ cond-false (nat_le (amount_of (J.entries old) n) (floor (J.entries old))) _ _ not_le))
    line)
