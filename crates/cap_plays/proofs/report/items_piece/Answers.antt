use Rattle.std.proofs.Common.{◌≡◌, subst, ap, sym, ◌++◌, IfOk, string_bytes, codes}
use Rattle.std.proofs.lemmas.List.{append-nil}
use Rattle.std.specs.Fmt.{decimal}
use Rattle.cap_plays.specs.Report.{items_text}
use Rattle.cap_plays.proofs.report.items_piece.Goals as goal

-- the last number ends the pieces
pub returns : goal.returns
unfolding items_text
returns c =
    let n = c.args.numbers in
    subst (λ l. IfOk c.format.result (λ t. string_bytes t ≡ l))
    (ap (λ l. decimal n.periods ++ (codes " items " ++ (decimal n.items ++ (codes " acked " ++ (decimal n.acked ++ (codes " set " ++ l))))))
    (sym (append-nil (decimal n.version)))) c.format.ensures.ok
