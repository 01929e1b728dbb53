use Rattle.std.proofs.Common.{◌≡◌, ◌∙◌, ap, subst, None}
use Rattle.cap_entries.specs.InForce.{staged_from, staged_version}
use Rattle.cap_terminal_answers.specs.Numbers.{numbers_version, staged_version_is}
use Rattle.cap_terminal.proofs.Room_laws.{sets_here}
use Rattle.cap_terminal.proofs.terminal.Terminal.staged_version.Goals as goal

pub returns : goal.returns
returns g c =
    let s = c.self.invariant.0 in
    let entries = g.J.Journal.entries c.self.inside.journal in
    subst (λ (j : g.row.J.Denot). c.version.result ≡ staged_version (staged_from None (g.J.Journal.entries j))) c.self.view_is
    (c.version.ensures ∙ (ap numbers_version (sets_here entries c.self.inside.index s.indexed s.legal).staged_is ∙ staged_version_is entries))
