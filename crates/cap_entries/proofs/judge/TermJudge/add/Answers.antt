use Rattle.std.proofs.Common.{arith}
use Rattle.cap_entries.specs.declared.terminal.TermEntry.TheVariants.{Declined, Completed, Voided, Cancelled}
use Rattle.cap_entries.specs.SummaryKept.{few_items, kept_at}
use Rattle.cap_entries.proofs.judge.TermJudge.add.Goals as goal

pub invariant_of-self-in-Declined : goal.invariant_of-self-in-Declined
invariant_of-self-in-Declined c = rw c.put_stage.ensures (kept_at _ _ (Declined c.in-Declined.n) _ c.self.view_is c.in-Declined.is c.self.invariant c.requires)

pub overflow_add-self : goal.overflow_add-self
overflow_add-self c = omega (arith, few_items _ c.self.invariant)

pub invariant_of-self-in-Completed : goal.invariant_of-self-in-Completed
invariant_of-self-in-Completed c = rw c.put_stage-in-Completed.ensures (kept_at _ _ (Completed c.in-Completed.n c.in-Completed.code) _ c.self.view_is c.in-Completed.is c.self.invariant c.requires)

pub overflow_add-self-in-Voided : goal.overflow_add-self-in-Voided
overflow_add-self-in-Voided c = omega (arith, few_items _ c.self.invariant)

pub invariant_of-self-in-Voided : goal.invariant_of-self-in-Voided
invariant_of-self-in-Voided c = rw c.put_stage-in-Voided.ensures (kept_at _ _ (Voided c.in-Voided.n) _ c.self.view_is c.in-Voided.is c.self.invariant c.requires)

pub overflow_add-self-in-Cancelled : goal.overflow_add-self-in-Cancelled
overflow_add-self-in-Cancelled c = omega (arith, few_items _ c.self.invariant)

pub invariant_of-self-in-Cancelled : goal.invariant_of-self-in-Cancelled
invariant_of-self-in-Cancelled c = rw c.put_stage-in-Cancelled.ensures (kept_at _ _ (Cancelled c.in-Cancelled.n) _ c.self.view_is c.in-Cancelled.is c.self.invariant c.requires)

pub overflow_add-self-in-Closed : goal.overflow_add-self-in-Closed
overflow_add-self-in-Closed c = omega (arith, few_items _ c.self.invariant)
