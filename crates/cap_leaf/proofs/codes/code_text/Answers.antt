use Rattle.std.proofs.Common.{◌<◌, length, ap, sym, ◌∙◌, subst}
use Rattle.cap_leaf.specs.Codes.{text_at}
use Rattle.cap_leaf.proofs.CodeLists.{text_in, few_bytes}
use Rattle.cap_leaf.proofs.codes.code_text.Goals as goal

pub returns-clause-text : goal.returns-clause-text
returns-clause-text c =
    c.as_bytes.ensures.value
    ∙ (sym (text_in c.codes.result.now c.args.at _ (subst (λ ts. c.args.at < length ts) (sym c.codes.ensures.texts) c.requires.within))
    ∙ ap (λ ts. text_at ts c.args.at) c.codes.ensures.texts)

pub returns-clause-len : goal.returns-clause-len
returns-clause-len c = rw (returns-clause-text c) (few_bytes c.args.list c.args.at)
