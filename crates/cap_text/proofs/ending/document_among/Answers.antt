use Rattle.std.proofs.Common.{◌∙◌, sym, ap}
use Rattle.std.specs.Str.{bytes_eq}
use Rattle.cap_text.proofs.Pieced.{document_found, document_other}
use Rattle.cap_text.proofs.ending.document_among.Goals as goal

pub returns-then-eq : goal.returns-then-eq
returns-then-eq c =
    sym (c.loop-kind.invariant
    ∙ document_found c.args.messages.now c.loop-kind.kind-index _ c.args.front.now c.document_front.result.now c.loop-kind-test.true c.document_front.ensures
    (ap (λ l. bytes_eq l c.args.front.now) (sym c.as_bytes.ensures.value) ∙ (sym c.eq.ensures ∙ c.if-eq.true)))

pub loop-kind-preserved : goal.loop-kind-preserved
loop-kind-preserved c =
    c.loop-kind.invariant
    ∙ document_other c.args.messages.now c.loop-kind.kind-index _ c.args.front.now c.document_front.result.now c.loop-kind-test.true c.document_front.ensures
    (ap (λ l. bytes_eq l c.args.front.now) (sym c.as_bytes.ensures.value) ∙ (sym c.eq.ensures ∙ c.if-eq.false))
