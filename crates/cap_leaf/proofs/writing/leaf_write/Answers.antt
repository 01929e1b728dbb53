use Rattle.std.proofs.Common.{ap, ◌∙◌}
use Rattle.cap_base.specs.Amount.{amount_text}
use Rattle.cap_leaf.specs.declared.leaf.Leaf.TheVariants as leaf
use Rattle.cap_leaf.proofs.LeavesBack.{written_back}
use Rattle.cap_leaf.proofs.writing.leaf_write.Goals as goal

pub returns-in-Num-clause-reads : goal.returns-in-Num-clause-reads
returns-in-Num-clause-reads c = λ k i h. written_back k c.args.leaf.now (leaf.Num c.in-Num.n) _ c.in-Num.is c.put_number.ensures.text i h c.requires tt

pub returns-in-Amount-clause-reads : goal.returns-in-Amount-clause-reads
returns-in-Amount-clause-reads c = λ k i h. written_back k c.args.leaf.now (leaf.Amount c.in-Amount.amount) _ c.in-Amount.is (c.put_money.ensures.text ∙ ap amount_text c.hundredths.ensures.value) i h c.requires c.hundredths.ensures.range

pub returns-in-Sum-clause-reads : goal.returns-in-Sum-clause-reads
returns-in-Sum-clause-reads c = λ k i h. written_back k c.args.leaf.now (leaf.Sum c.in-Sum.hundredths) _ c.in-Sum.is c.put_money-in-Sum.ensures.text i h c.requires tt

pub returns-in-DateTime-clause-reads : goal.returns-in-DateTime-clause-reads
returns-in-DateTime-clause-reads c = λ k i h. written_back k c.args.leaf.now (leaf.DateTime c.in-DateTime.date) _ c.in-DateTime.is c.put_date_time.ensures.text i h c.requires c.put_date_time.ensures.range

pub returns-in-Code-clause-reads : goal.returns-in-Code-clause-reads
returns-in-Code-clause-reads c = λ k i h. written_back k c.args.leaf.now (leaf.Code c.in-Code.list c.in-Code.at) _ c.in-Code.is (c.put-in-Code.ensures.text ∙ c.code_text.ensures.text) i h c.requires tt
