use Rattle.std.proofs.Common.{◌≡◌, ◌+◌, ◌∙◌, ◌++◌, ◌∷◌, [], List, Some, sym, ap, subst, arith, length, length-append, ⊎_elim}
use Rattle.std.specs.Prelude.{slice_get}
use Rattle.cap_host_index.specs.Noted.{IsIndex}
use Rattle.cap_host_index.specs.declared.index.LogIndex.{LogIndex}
use Rattle.cap_host.proofs.Tabled.{get_pushed}
use Rattle.cap_host.proofs.tables.empty_logs.Goals as goal

pub loop-preserved : goal.loop-preserved
loop-preserved c =
    let inv = c.loop.invariant in
    let grown = c.in_ok-push.ensures.items in
    record {
      len = omega (arith, inv.len, ap (λ (l : List LogIndex). length l) grown, length-append c.loop.logs.items (c.new.result ∷ []));
      empty = λ place index at terminal.
          ⊎_elim (λ there. inv.empty place index there terminal) (λ same. subst (λ (i : LogIndex). IsIndex [] terminal i) (sym same) (c.new.ensures terminal))
          (get_pushed c.loop.logs.items c.new.result place index (subst (λ (l : List LogIndex). slice_get l place ≡ Some index) grown at));
    }
