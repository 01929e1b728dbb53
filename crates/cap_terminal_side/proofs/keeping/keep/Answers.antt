use Rattle.std.proofs.Common.{◌≡◌, ◌++◌, Option, Some, sym, subst, append-nil, arith}
use Rattle.std.specs.Prelude.{OnOk}
use Rattle.cap_schedule.specs.declared.schedule.Prefix.{Prefix}
use Rattle.cap_schedule.specs.declared.schedule.Prefix.TheVariants.{Cut, Fail, CutAfter}
use Rattle.cap_terminal_side.specs.Keeping.{kept_of}
use Rattle.cap_terminal_side.proofs.keeping.keep.Goals as goal

pub returns-in-Some-Cut : goal.returns-in-Some-Cut
returns-in-Some-Cut c =
    let is : c.args.prefix ≡ Some (Cut c.in-Some-Cut.field-0-0 c.in-Some-Cut.field-0-1) = grind (arith, c.in-Some-Cut.is, c.in-Some-Cut.field-0-is) in
    subst (λ (p : Option Prefix). OnOk c.keep_text.result (c.keep_text.new.texts.items ≡ c.args.texts.now.items ++ kept_of p c.args.text)) (sym is) c.keep_text.ensures

pub returns-in-Some-Fail : goal.returns-in-Some-Fail
returns-in-Some-Fail c =
    let is : c.args.prefix ≡ Some (Fail c.in-Some-Fail.field-0-0 c.in-Some-Fail.field-0-1) = grind (arith, c.in-Some-Fail.is, c.in-Some-Fail.field-0-is) in
    subst (λ (p : Option Prefix). OnOk c.keep_text-in-Some-Fail.result (c.keep_text-in-Some-Fail.new.texts.items ≡ c.args.texts.now.items ++ kept_of p c.args.text)) (sym is) c.keep_text-in-Some-Fail.ensures

pub returns-in-Some-CutAfter : goal.returns-in-Some-CutAfter
returns-in-Some-CutAfter c =
    let is : c.args.prefix ≡ Some CutAfter = grind (arith, c.in-Some-CutAfter.is, c.in-Some-CutAfter.field-0-is) in
    subst (λ (p : Option Prefix). c.args.texts.now.items ≡ c.args.texts.now.items ++ kept_of p c.args.text) (sym is) (sym (append-nil c.args.texts.now.items))

pub returns-in-None : goal.returns-in-None
returns-in-None c =
    subst (λ (p : Option Prefix). OnOk c.keep_text-in-None.result (c.keep_text-in-None.new.texts.items ≡ c.args.texts.now.items ++ kept_of p c.args.text)) (sym c.in-None.is) c.keep_text-in-None.ensures
