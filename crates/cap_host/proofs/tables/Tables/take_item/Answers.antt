use Rattle.std.proofs.Common.{◌≡◌, ◌<◌, ◌++◌, ◌∷◌, [], ◌∙◌, refl, sym, subst, length, map}
use Rattle.std.proofs.lemmas.List.{set-set, get_or-set_same}
use Rattle.std.proofs.lemmas.Option.{slice_get_read}
use Rattle.cap_entries.specs.declared.host.HostEntry.TheVariants.{Took}
use Rattle.cap_host_index.specs.Noted.{IsNoted, IsIndex}
use Rattle.cap_host_index.specs.declared.index.LogIndex.{LogIndex}
use Rattle.cap_host.proofs.Tabled.{tie_took, took_within, took_fits}
use Rattle.cap_host.proofs.tables.Tables.take_item.Goals as goal

pub returns : goal.returns
returns c = λ entries tie is ok.
    let old = c.args.self.now in
    let t = c.args.terminal in
    let item = c.args.item.now in
    let x = c.index_mut.result.now in
    let y = c.note.new.self in
    let z = c.take_all.new.self in
    let placed : t < length old.logs.items = took_within entries old t item tie ok in
    let own : IsIndex entries t x = tie.logs_are t x (slice_get_read old.logs.items (length old.logs.items) t x refl placed c.index_mut.ensures.value) in
    let noted : IsNoted entries t (item ∷ []) y = c.in_ok-note.ensures.noted entries t own (took_fits entries t item ok) in
    let same : c.index_mut-2.result.now ≡ y = c.index_mut-2.ensures.value ∙ get_or-set_same old.logs.items t y c.index_mut-2.result.now placed in
    let index : IsIndex (entries ++ Took t item ∷ []) t z = c.take_all.ensures entries t is (subst (λ (i : LogIndex). IsNoted entries t (item ∷ []) i) (sym same) noted) in
    tie_took entries old _ t item z tie ok refl refl (set-set old.logs.items t y z) index
