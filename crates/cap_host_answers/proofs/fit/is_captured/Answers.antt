use Rattle.std.proofs.Common.{◌∙◌, sym, not}
use Rattle.std.specs.List.{list_any}
use Rattle.cap_base.specs.Item.{is_cancel}
use Rattle.cap_entries.specs.LogSummaryLaws.{captured_sale}
use Rattle.cap_host_answers.proofs.fit.is_captured.Goals as goal

pub returns : goal.returns
returns c = c.is_kept.ensures ∙ sym (captured_sale (λ k. not (list_any (is_cancel k) c.args.log.now)) c.args.sale c.args.sum c.args.log.now)
