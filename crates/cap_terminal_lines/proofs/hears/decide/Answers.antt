use Rattle.std.proofs.Common.{◌≡◌, ℕ, List, [], ◌∷◌, refl, sym, subst, ◌∙◌}
use Rattle.cap_base.specs.declared.codes.Response.{Response}
use Rattle.cap_base.specs.declared.codes.Response.TheVariants.{Appr}
use Rattle.cap_sale.specs.Tokens.{BegunSale, ApprovedSale}
use Rattle.cap_sale.specs.Refusals.{IsAuthRefusal}
use Rattle.cap_sale.specs.declared.tokens.AuthRefused.{AuthRefused}
use Rattle.cap_terminal.specs.Live.{IsLive}
use Rattle.cap_schedule.specs.declared.outcome.Outcome.TheVariants as O
use Rattle.cap_plays.specs.Turns.{Decided, on_approval, on_response}
use Rattle.cap_terminal_lines.specs.Acts.{AddDone}
use Rattle.cap_terminal_lines.proofs.Hearing.{declined}
use Rattle.cap_terminal_lines.proofs.hears.decide.Goals as goal
use Rattle.cap_entries.specs.declared.terminal.TermEntry.TheVariants.{Declined}

pub settle-requires : goal.settle-requires
settle-requires g c = subst (λ (a : ApprovedSale). IsLive (g.J.Journal.entries c.args.terminal.now) a.n a.amount a.account) (sym c.in-Ok.ensures.approved) c.requires.live

pub returns-in-Ok-clause-done : goal.returns-in-Ok-clause-done
returns-in-Ok-clause-done g c =
    let J = g.J.Journal in
    let w = c.args.walks_out in
    let answer = c.args.answer.now in
    let new = c.settle.new.terminal in
    let Q : ℕ → List ℕ → Type 0 = λ n code. AddDone J c.args.terminal.now new (on_approval w n code).added (on_approval w n code).outcome c.settle.result in
    let one = subst (λ (a : ApprovedSale). Q a.n a.code) c.in-Ok.ensures.approved c.settle.ensures.done in
    let two = subst (λ (n : ℕ). Q n answer.code) c.requires.sale one in
    let appr = (c.in-Ok.ensures.exact.0 refl).1 in
    subst (λ (r : Response). AddDone J c.args.terminal.now new (on_response w answer.n r answer.code).added (on_response w answer.n r answer.code).outcome c.settle.result) (sym appr) two

pub decline-requires : goal.decline-requires
decline-requires g c =
    let refused = subst (λ (f : AuthRefused). IsAuthRefusal c.args.begun c.args.answer.now f) c.in-Err-Declined.field-0-is c.in-Err-Declined.ensures.refused in
    subst (λ (b : BegunSale). IsLive (g.J.Journal.entries c.args.terminal.now) b.n b.amount b.account) (sym refused.0) c.requires.live

pub returns-in-Err-Declined-clause-done : goal.returns-in-Err-Declined-clause-done
returns-in-Err-Declined-clause-done g c =
    let J = g.J.Journal in
    let w = c.args.walks_out in
    let answer = c.args.answer.now in
    let new = c.decline.new.terminal in
    let refused = subst (λ (f : AuthRefused). IsAuthRefusal c.args.begun answer f) c.in-Err-Declined.field-0-is c.in-Err-Declined.ensures.refused in
    let other : answer.response ≡ Appr → ⊥ = λ appr. refused.3 (refused.2 ∙ appr) in
    let D : Decided → Type 0 = λ d. AddDone J c.args.terminal.now new d.added d.outcome c.decline.result in
    let A : ℕ → Type 0 = λ n. AddDone J c.args.terminal.now new (Declined n ∷ []) (O.DeclinedSale n) c.decline.result in
    let one = subst (λ (b : BegunSale). A b.n) refused.0 c.decline.ensures.done in
    subst D (sym (declined w answer.n answer.response answer.code other)) (subst A c.requires.sale one)

pub returns-in-Err-NotTheAnswer-clause-done : goal.returns-in-Err-NotTheAnswer-clause-done
returns-in-Err-NotTheAnswer-clause-done g c =
    let refused = subst (λ (f : AuthRefused). IsAuthRefusal c.args.begun c.args.answer.now f) c.in-Err-NotTheAnswer.field-0-is c.in-Err-NotTheAnswer.ensures.refused in
    absurd (refused.1 (sym c.requires.sale))
