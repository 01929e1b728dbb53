use Rattle.std.proofs.Common.{◌≡◌, ◌∙◌, ap, subst, None}
use Rattle.cap_entries.specs.InForce.{staged_from, staged_count}
use Rattle.cap_terminal_answers.specs.Numbers.{numbers_part, staged_count_is}
use Rattle.cap_terminal.proofs.Room_laws.{sets_here}
use Rattle.cap_terminal.proofs.terminal.Terminal.staged_parts.Goals as goal

pub returns : goal.returns
returns g c =
    let s = c.self.invariant.0 in
    let entries = g.J.Journal.entries c.self.inside.journal in
    subst (λ (j : g.row.J.Denot). c.part_number.result ≡ staged_count (staged_from None (g.J.Journal.entries j))) c.self.view_is
    (c.part_number.ensures ∙ (ap numbers_part (sets_here entries c.self.inside.index s.indexed s.legal).staged_is ∙ staged_count_is entries))
