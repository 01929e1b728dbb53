use Rattle.std.proofs.Common.{◌≡◌, ℕ, Option, ◌∙◌, ap, subst}
use Rattle.cap_entries.specs.InForce.{version_in_force}
use Rattle.cap_entries.specs.Allowed.{part_allowed}
use Rattle.cap_terminal_answers.specs.declared.part.PartNumbers.{PartNumbers}
use Rattle.cap_terminal_answers.specs.Numbers.{numbers_allow, numbers_allow_is}
use Rattle.cap_terminal.proofs.Room_laws.{sets_here}
use Rattle.cap_terminal.proofs.terminal.Terminal.may_add.Goals as goal

pub returns : goal.returns
returns g c =
    let s = c.self.invariant.0 in
    let entries = g.J.Journal.entries c.self.inside.journal in
    let sets = c.self.inside.index.sets in
    let ties = sets_here entries c.self.inside.index s.indexed s.legal in
    subst (λ (j : g.row.J.Denot). c.allows.result ≡ part_allowed (g.J.Journal.entries j) c.args.part.now) c.self.view_is
    (c.allows.ensures
    ∙ (ap (λ (v : ℕ). numbers_allow v sets.staged c.args.part.now) ties.in_force_is
    ∙ (ap (λ (last : Option PartNumbers). numbers_allow (version_in_force entries) last c.args.part.now) ties.staged_is
    ∙ numbers_allow_is entries c.args.part.now)))
