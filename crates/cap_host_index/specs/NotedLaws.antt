-- The index of a log stays where the journal grows by entries that are no items of it.
use Rattle.std.proofs.Common.{◌≡◌, ℕ, false, List, [], ◌∷◌, ◌++◌, length, map, sym, ◌∙◌, ap, subst, append_assoc, append-nil}
use Rattle.std.specs.Prelude.{◌==◌}
use Rattle.std.proofs.lemmas.Bool.{cond-false}
use Rattle.cap_base.specs.declared.item.Item.{Item}
use Rattle.cap_entries.specs.declared.host.HostEntry.{HostEntry}
use Rattle.cap_entries.specs.declared.host.HostEntry.TheVariants.{Took}
use Rattle.cap_entries.specs.Log.{item_from, log}
use Rattle.cap_entries.specs.HostSummaryLaws.{log-push}
use Rattle.cap_host_index.specs.Places.{places_of}
use Rattle.cap_host_index.specs.PlacesLaws.{places-push}
use Rattle.cap_host_index.specs.Noted.{Tallies, IsIndex}
use Rattle.cap_host_index.specs.declared.index.LogIndex.{LogIndex}

-- one entry that is no item of the terminal
pub index_kept : (entries : List HostEntry) (entry : HostEntry) (terminal : ℕ) (x : LogIndex) → item_from terminal entry ≡ [] → IsIndex entries terminal x → IsIndex (entries ++ entry ∷ []) terminal x
index_kept entries entry terminal x none index =
    record {
      places = index.places ∙ sym (places-push entries entry terminal ∙ (ap (λ (l : List Item). places_of_with l) none ∙ append-nil _));
      tallies = subst (λ (l : List Item). Tallies l [] x) (sym (log-push entries entry terminal ∙ (ap (λ (l : List Item). log entries terminal ++ l) none ∙ append-nil (log entries terminal)))) index.tallies;
    }
  where
    places_of_with : List Item → List ℕ
    places_of_with l = places_of entries terminal ++ map (λ _. length entries) l

-- items of another terminal
pub index_kept_all : (entries : List HostEntry) (place : ℕ) (items : List Item) (terminal : ℕ) (x : LogIndex) → (place == terminal) ≡ false → IsIndex entries terminal x → IsIndex (entries ++ map (Took place) items) terminal x
index_kept_all entries place [] terminal x other index = subst (λ (l : List HostEntry). IsIndex l terminal x) (sym (append-nil entries)) index
index_kept_all entries place (item ∷ items) terminal x other index =
    subst (λ (l : List HostEntry). IsIndex l terminal x) (append_assoc entries (Took place item ∷ []) (map (Took place) items))
    (index_kept_all (entries ++ Took place item ∷ []) place items terminal x other (index_kept entries (Took place item) terminal x (cond-false (place == terminal) _ _ other) index))
