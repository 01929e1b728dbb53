-- A front of a journal's items that reaches past what is acknowledged agrees with the journal.
use Rattle.std.proofs.Common.{◌≡◌, ◌≤◌, true, List, [], length, ◌∙◌, ap, arith, length-drop}
use Rattle.cap_base.specs.declared.item.Item.{Item}
use Rattle.cap_base.specs.Captured.{captured, totals}
use Rattle.cap_base.specs.Fits.{all_fit}
use Rattle.cap_entries.specs.declared.terminal.TermEntry.{TermEntry}
use Rattle.cap_entries.specs.Items.{items}
use Rattle.cap_entries.specs.Acked.{acked}
use Rattle.cap_entries.specs.Allowed.{all_allowed}
use Rattle.cap_entries.specs.Fronts.{IsPrefixOf, prefix_whole}
use Rattle.cap_entries.specs.FitsLaws.{all_fit_front}
use Rattle.cap_plain.specs.Queue.{queue}
use Rattle.cap_plain.specs.Agreed.{Agreed}
use Rattle.cap_plain.specs.KeptLaws.{captured_items}
use Rattle.cap_plain.specs.LegalLaws.{items_fit}
use Rattle.cap_plain.specs.Once.{one_end, one_cancel, one_close}

-- with an empty queue such a front is all the items
pub whole_front : (entries : List TermEntry) (log : List Item) → IsPrefixOf log (items entries) → acked entries ≤ length log → queue entries ≡ [] → log ≡ items entries
whole_front entries log front reached none =
    prefix_whole log (items entries) front (omega (arith, reached, length-drop (acked entries) (items entries), ap length none))

pub agreed_from_front : (entries : List TermEntry) (log : List Item) → all_allowed [] entries ≡ true → IsPrefixOf log (items entries) → acked entries ≤ length log → Agreed entries log
agreed_from_front entries log legal front reached =
    let fit : all_fit [] log ≡ true = all_fit_front [] log front.0 (ap (all_fit []) front.1 ∙ items_fit entries legal) in
    record {
      front = front;
      one_end = one_end log fit;
      one_cancel = one_cancel log fit;
      one_close = one_close log fit;
      reached = reached;
      capture = λ none. ap captured (whole_front entries log front reached none) ∙ captured_items entries;
      periods = λ none p. ap (λ l. totals l p) (whole_front entries log front reached none);
    }
