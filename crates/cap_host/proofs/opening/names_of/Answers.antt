use Rattle.std.proofs.Common.{◌≡◌, ℕ, ◌<◌, ◌++◌, ◌∷◌, [], ◌∙◌, cond, true, sym, ap, subst, length, List, get_or}
use Rattle.std.specs.Prelude.{◌&&◌, nat_le, bytes_eq}
use Rattle.std.specs.List.{list_any}
use Rattle.std.proofs.lemmas.Bool.{and_parts}
use Rattle.cap_entries.specs.Lists.{are_distinct}
use Rattle.cap_host.proofs.Openings.{names_push}
use Rattle.cap_host.proofs.opening.names_of.Goals as goal

pub loop-name-preserved : goal.loop-name-preserved
loop-name-preserved c =
    let names = c.as_slice-name-items.result.now in
    let keys = c.loop-name.names.keys in
    let i = c.loop-name.name-index in
    let name = c.name-item.result in
    let listed : names ≡ c.args.setup.now.terminals = c.as_slice-name-items.ensures.names ∙ c.terminals.ensures.value in
    let distinct : are_distinct c.args.setup.now.terminals ≡ true =
    ap are_distinct (sym c.terminals.ensures.value) ∙ (and_parts (nat_le 1 (length c.terminals.result.now) && nat_le (length c.terminals.result.now) 16) (are_distinct c.terminals.result.now) c.as_slice-name-items.ensures.rule).1 in
    c.in_ok-insert.ensures.keys
    ∙ (ap (λ (n : List ℕ). cond (list_any (bytes_eq n) keys) keys (keys ++ n ∷ [])) c.new.ensures
    ∙ names_push c.args.setup.now.terminals keys i name distinct (subst (λ (l : List (List ℕ)). i < length l) listed c.loop-name-test.true) (c.name-item.is ∙ ap (λ (l : List (List ℕ)). get_or l i name) listed) c.loop-name.invariant)
