-- What stands after an append that failed, and in every image.
use Rattle.std.proofs.Common.{◌≡◌, ℕ, Bool, true, List, ◌++◌, Option, Some, None, take, drop, length, Err, refl, sym, ◌∙◌, ap, subst}
use Rattle.std.specs.Prelude.{option_map}
use Rattle.std.proofs.lemmas.List.{take-append-drop}
use Rattle.cap_journal.specs.File.{entries_in}
use Rattle.cap_journal.specs.Kept.{HasFront}
use Rattle.cap_journal.specs.Told.{HasAppendCause}
use Rattle.cap_journal.specs.declared.journal.JournalError.{JournalError}
use Rattle.cap_journal.specs.declared.journal.JournalError.TheVariants.{Disk, Failed, Memory}
use Rattle.cap_entries.specs.declared.terminal.TermEntry.{TermEntry}
use Rattle.cap_entries.specs.Items.{items}
use Rattle.cap_entries.specs.ItemsLaws.{items_grow}
use Rattle.cap_entries.specs.Fronts.{IsPrefixOf}
use Rattle.cap_entries.specs.TermRecord.{term_reading}
use Rattle.cap_terminal.specs.Stands.{HasItems}

pub failed_after : {T : Type 0} (fault : JournalError) (failed_before failed_now : Bool) (before now : ℕ) → HasAppendCause {T = T} failed_before failed_now before now (Err fault) → failed_now ≡ true
failed_after Disk failed_before failed_now before now cause = cause.failed_disk refl
failed_after Failed failed_before failed_now before now cause = cause.failed_failed refl
failed_after Memory failed_before failed_now before now cause = absurd (cause.no_memory refl)

-- an image that has the entries at its head has their items
pub items_in_front : (list : List TermEntry) (image : List ℕ) → HasFront term_reading list image → HasItems term_reading (items list) image
items_in_front list image front = found (entries_in term_reading image) refl
  where
    found : (o : Option (List TermEntry)) → entries_in term_reading image ≡ o → HasItems term_reading (items list) image
    found None is = absurd (let no : None ≡ Some list = ap (λ (o : Option (List TermEntry)). option_map (take (length list)) o) (sym is) ∙ front in cc)
    found (Some all) is =
        let same : Some (take (length list) all) ≡ Some list = ap (λ (o : Option (List TermEntry)). option_map (take (length list)) o) (sym is) ∙ front in
        let head : take (length list) all ≡ list = cc in
        let whole : list ++ drop (length list) all ≡ all = ap (λ (l : List TermEntry). l ++ drop (length list) all) (sym head) ∙ take-append-drop (length list) all in
        record { entries = all; has = is; stand = subst (λ (l : List TermEntry). IsPrefixOf (items list) (items l)) whole (items_grow list (drop (length list) all)) }
