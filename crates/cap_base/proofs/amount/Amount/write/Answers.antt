use Rattle.std.proofs.Common.{ap, ◌∙◌, arith, length}
use Rattle.cap_base.specs.Amount.{amount_text}
use Rattle.cap_base.proofs.Decimals.{amount_put, few_whole}
use Rattle.cap_base.proofs.amount.Amount.write.Goals as goal

pub put-at-requires : goal.put-at-requires
put-at-requires c =
    let few = few_whole c.self.inside.hundredths c.self.invariant.within in
    let same = ap length (c.as_bytes.ensures.value ∙ c.format.ensures.text) in omega (arith, few, same)

pub bounds-out-at : goal.bounds-out-at
bounds-out-at c =
    let few = few_whole c.self.inside.hundredths c.self.invariant.within in
    let same = ap length (c.as_bytes.ensures.value ∙ c.format.ensures.text) in omega (arith, few, same, c.put-at.ensures.len)

pub bounds-out-at-2 : goal.bounds-out-at-2
bounds-out-at-2 c =
    let few = few_whole c.self.inside.hundredths c.self.invariant.within in
    let same = ap length (c.as_bytes.ensures.value ∙ c.format.ensures.text) in omega (arith, few, same, c.put-at.ensures.len)

pub bounds-out-at-3 : goal.bounds-out-at-3
bounds-out-at-3 c =
    let few = few_whole c.self.inside.hundredths c.self.invariant.within in
    let same = ap length (c.as_bytes.ensures.value ∙ c.format.ensures.text) in omega (arith, few, same, c.put-at.ensures.len)

pub returns-clause-len : goal.returns-clause-len
returns-clause-len c =
    let few = few_whole c.self.inside.hundredths c.self.invariant.within in
    let same = ap length (c.as_bytes.ensures.value ∙ c.format.ensures.text) in omega (arith, few, same, c.put-at.ensures.len)

pub returns-clause-text : goal.returns-clause-text
returns-clause-text c =
    let few = few_whole c.self.inside.hundredths c.self.invariant.within in
    let text = c.as_bytes.ensures.value ∙ c.format.ensures.text in
    let same = ap length text in
    amount_put c.put-at.new.out c.put-at.result c.self.inside.hundredths (c.put-at.ensures.text ∙ text) (omega (arith, few, same, c.put-at.ensures.len)) ∙ ap amount_text c.self.view_is
