use Rattle.std.proofs.Common.{◌≡◌, ◌+◌, ◌≤◌, ◌-◌, ◌∙◌, sym, ap, subst, arith, length, min, take, drop, true, false, List}
use Rattle.std.specs.Prelude.{IfOk}
use Rattle.cap_entries.specs.declared.host.HostEntry.{HostEntry}
use Rattle.cap_entries.specs.Log.{log}
use Rattle.cap_host_answers.specs.Plain.{batch_taken}
use Rattle.cap_host_answers.specs.Answer.{Answered, agree_so_far}
use Rattle.cap_host.specs.Decision.{decided}
use Rattle.cap_host.specs.Host.{entries_of}
use Rattle.cap_host.proofs.Agreeing.{agree_known, batch_told, batch_differs}
use Rattle.cap_host.proofs.host.Host.advise_many.Goals as goal

pub returns-then-not-branch-clause-told : goal.returns-then-not-branch-clause-told
returns-then-not-branch-clause-told g c =
    let own = log (entries_of c.args.self.now) c.args.terminal in
    let x = c.args.x in
    let some : 1 ≤ x = omega arith in
    let near : x ≤ length own + 1 = omega (arith, c.log_len-known.ensures.value) in
    let old : c.min-old.result ≡ min ((length own + 1) - x) (length c.args.items.now) = omega (arith, c.log_len-known.ensures.value, c.min-old.ensures) in
    let differs : agree_so_far (drop (x - 1) own) (take c.min-old.result c.args.items.now) ≡ false = sym c.in_ok-agrees.ensures.value ∙ c.if-not-branch.true in
    c.tells-then-not-branch.ensures.decided
    ∙ (c.differs.ensures
    ∙ batch_differs c.args.terminal x own c.args.items.now some near (sym (agree_known own c.args.items.now x c.min-old.result some near old) ∙ differs))

pub returns-clause-told : goal.returns-clause-told
returns-clause-told g c =
    let own = log (entries_of c.args.self.now) c.args.terminal in
    let x = c.args.x in
    let some : 1 ≤ x = omega arith in
    let near : x ≤ length own + 1 = omega (arith, c.log_len-known.ensures.value) in
    let old : c.min-old.result ≡ min ((length own + 1) - x) (length c.args.items.now) = omega (arith, c.log_len-known.ensures.value, c.min-old.ensures) in
    let agree : agree_so_far (drop (x - 1) own) (take c.min-old.result c.args.items.now) ≡ true = sym c.in_ok-agrees.ensures.value ∙ c.if-not-branch.false in
    let is = batch_told c.args.terminal x own c.args.items.now some near (sym (agree_known own c.args.items.now x c.min-old.result some near old) ∙ agree) in
    subst (λ (a : Answered). IfOk c.take_batch.result (λ decision. decided decision ≡ a))
    (ap (λ (es : List HostEntry). batch_taken c.args.terminal (log es c.args.terminal) x c.args.items.now) c.in_ok-agrees.ensures.entries ∙ is)
    c.take_batch.ensures.told
