-- What the plain call of a host stands on.
use Rattle.std.specs.Prelude.{ℕ, ◌+◌, ◌-◌, ◌==◌, if◌then◌else◌, Bool, true, List, [], ◌∷◌, ◌++◌, length, map, Some}
use Rattle.std.specs.List.{list_any}
use Rattle.cap_base.specs.declared.item.Item.{Item}
use Rattle.cap_base.specs.declared.item.Item.TheVariants.{Sale, Void, Cancel, Close}
use Rattle.cap_base.specs.declared.codes.Reason.TheVariants.{Dpmg}
use Rattle.cap_base.specs.declared.codes.Response.TheVariants.{Part}
use Rattle.cap_base.specs.Item.{is_close}
use Rattle.cap_base.specs.Fits.{fits}
use Rattle.cap_batch_msgs.specs.declared.body.BatchBody.TheVariants.{BatchAnswer}
use Rattle.cap_msgs.specs.declared.message.Body.TheVariants.{Batch as Of_batch}
use Rattle.cap_entries.specs.declared.host.HostEntry.{HostEntry}
use Rattle.cap_entries.specs.declared.host.HostEntry.TheVariants.{Took}
use Rattle.cap_host_answers.specs.Answer.{Answered, answers, rejected, rejected_expecting, approved_if, answer_of_item, item_at, same_item, taken_items, standing}

-- a closing stands in the log
abbrev pub is_closed_there : List Item → Item → Bool
is_closed_there log (Close p totals) = list_any (is_close p) log
is_closed_there log _ = true

-- the parts of the answer to an item, and to items in a row
abbrev pub advice_again : List Item → ℕ → Item → Answered
advice_again log m item = if same_item (item_at log m) item then answers (answer_of_item log item) else rejected Dpmg

abbrev pub advice_next : ℕ → List Item → Item → Answered
advice_next place log item =
    if fits log item
    then record { added = Took place item ∷ []; reply = Some (answer_of_item (log ++ item ∷ []) item) }
    else rejected_expecting (length log + 1)

abbrev pub batch_taken : ℕ → List Item → ℕ → List Item → Answered
batch_taken place log x items = record {
  added = map (Took place) (taken_items log x items);
  reply = Some (Of_batch (BatchAnswer (approved_if (standing log x items == length items) Part) ((x + standing log x items) - 1)));
}
