use Rattle.std.proofs.Common.{◌≡◌, ℕ, ◌+◌, ◌≤◌, ◌<◌, ◌++◌, ◌∙◌, true, sym, ap, subst, arith, length, map, List, Option, Some, None}
use Rattle.std.specs.Prelude.{slice_get, slice_set}
use Rattle.std.specs.List.{list_all}
use Rattle.std.proofs.lemmas.List.{set-set, get_or-set_same}
use Rattle.std.proofs.lemmas.List.Sums.{AllPass-from_list_all}
use Rattle.std.proofs.lemmas.Bool.{lt-ltb}
use Rattle.std.proofs.lemmas.Option.{slice_get_read}
use Rattle.cap_entries.specs.Settings.{HostSettings}
use Rattle.cap_entries.specs.declared.host.HostEntry.{HostEntry}
use Rattle.cap_entries.specs.declared.host.HostEntry.TheVariants.{Took}
use Rattle.cap_entries.specs.HostRecord.{host_fits, is_took}
use Rattle.cap_host_index.specs.Noted.{IsNoted, IsIndex}
use Rattle.cap_host_index.specs.declared.index.LogIndex.{LogIndex}
use Rattle.cap_ledger.specs.Ledger.{Adds, entries_in}
use Rattle.cap_host.specs.Host.{entries_of, spare_of, ending}
use Rattle.cap_host.specs.Ties.{HostTies}
use Rattle.cap_answering.specs.declared.fault.HostFault.{HostFault}
use Rattle.cap_answering.specs.declared.fault.HostFault.TheVariants.{Memory}
use Rattle.cap_host.proofs.Composed.{lacks_fault, lacks_behind, fails_reading}
use Rattle.cap_host.proofs.Groups.{group_suffices, took_took, took_fit, grown_length, group_length}
use Rattle.cap_host.proofs.TiesLaws.{ties_swapped, ties_took, length_replaced}
use Rattle.cap_host.proofs.host.Host.add_group.Goals as goal

pub add_group-requires-clause-fits : goal.add_group-requires-clause-fits
add_group-requires-clause-fits g c =
    AllPass-from_list_all host_fits c.args.group.items
    (ap (list_all host_fits) c.requires.group ∙ took_fit c.args.terminal c.args.items.now (lt-ltb c.args.terminal 256 (omega (arith, c.ranges.terminal))) c.requires.fits)

pub add_group-requires-clause-size : goal.add_group-requires-clause-size
add_group-requires-clause-size g c =
    let took : list_all is_took c.args.group.items ≡ true = ap (list_all is_took) c.requires.group ∙ took_took c.args.terminal c.args.items.now in
    let fit : list_all host_fits c.args.group.items ≡ true = ap (list_all host_fits) c.requires.group ∙ took_fit c.args.terminal c.args.items.now (lt-ltb c.args.terminal 256 (omega (arith, c.ranges.terminal))) c.requires.fits in
    c.batches_are_groups.ensures c.args.group.items took fit (omega (arith, c.requires.may.few, group_length c.args.group.items c.args.terminal c.args.items.now c.requires.group))

pub add_group-requires-clause-spare : goal.add_group-requires-clause-spare
add_group-requires-clause-spare g c =
    let took : list_all is_took c.args.group.items ≡ true = ap (list_all is_took) c.requires.group ∙ took_took c.args.terminal c.args.items.now in
    let fit : list_all host_fits c.args.group.items ≡ true = ap (list_all host_fits) c.requires.group ∙ took_fit c.args.terminal c.args.items.now (lt-ltb c.args.terminal 256 (omega (arith, c.ranges.terminal))) c.requires.fits in
    group_suffices c.records_are_bounded.ensures.took c.args.group.items (spare_of c.args.self.now) took fit (omega (arith, c.requires.room, group_length c.args.group.items c.args.terminal c.args.items.now c.requires.group))

pub overflow_sub-first : goal.overflow_sub-first
overflow_sub-first g c =
    let adds = c.in-Ok.ensures.adds in
    let readable = c.args.self.now.readable in
    omega (arith, c.count.ensures.listed (adds.stays.is_readable ∙ readable), grown_length _ (entries_of c.args.self.now) c.args.group.items c.args.terminal c.args.items.now (adds.grown readable) c.requires.group)

pub invariant_of-self : goal.invariant_of-self
invariant_of-self g c =
    let host = c.args.self.now in
    let entries = entries_of host in
    let t = c.args.terminal in
    let x = c.index_mut.result.now in
    let inside = subst (λ (s : HostSettings). t < length s.terminals) (sym host.ties.set_up) c.requires.may.within in
    let own : IsIndex entries t x = host.ties.logs_are t x (slice_get_read host.logs.items _ t x (sym host.wide) inside c.index_mut.ensures.value) in
    record {
      named = host.named;
      wide = length_replaced host.logs.items t c.note.new.self ∙ host.wide;
      readable = host.readable;
      ties = ties_swapped entries host.setup host.sets.items host.logs.items t c.note.new.self host.ties (c.in_err-note.ensures.unnoted entries t own c.requires.may.fit);
    }

pub invariant_of-self-in-Ok : goal.invariant_of-self-in-Ok
invariant_of-self-in-Ok g c =
    let host = c.args.self.now in
    let entries = entries_of host in
    let t = c.args.terminal in
    let items = c.args.items.now in
    let x = c.index_mut.result.now in
    let y = c.note.new.self in
    let z = c.take_all.new.self in
    let inside = subst (λ (s : HostSettings). t < length s.terminals) (sym host.ties.set_up) c.requires.may.within in
    let placed : t < length host.logs.items = subst (λ (n : ℕ). t < n) (sym host.wide) inside in
    let own : IsIndex entries t x = host.ties.logs_are t x (slice_get_read host.logs.items _ t x (sym host.wide) inside c.index_mut.ensures.value) in
    let noted : IsNoted entries t items y = c.in_ok-note.ensures.noted entries t own c.requires.may.fit in
    let same : c.index_mut-in-Ok.result.now ≡ y = c.index_mut-in-Ok.ensures.value ∙ get_or-set_same host.logs.items t y c.index_mut-in-Ok.result.now placed in
    let adds = c.in-Ok.ensures.adds in
    let many = grown_length _ entries c.args.group.items t items (adds.grown host.readable) c.requires.group in
    let index : IsIndex (entries ++ map (Took t) items) t z = c.take_all.ensures entries t (omega (arith, c.count.ensures.listed (adds.stays.is_readable ∙ host.readable), many)) (subst (λ (i : LogIndex). IsNoted entries t items i) (sym same) noted) in
    let tied = ties_took entries host.setup host.sets.items host.logs.items t items z host.ties inside c.requires.may.fit index in
    let grown : entries_in c.add_group.new.self ≡ entries ++ map (Took t) items = adds.grown host.readable ∙ ap (λ (l : List HostEntry). entries ++ l) c.requires.group in
    record {
      named = host.named;
      wide = length_replaced (slice_set host.logs.items t y) t z ∙ (length_replaced host.logs.items t y ∙ host.wide);
      readable = adds.stays.is_readable ∙ host.readable;
      ties =
          subst (λ (es : List HostEntry). HostTies es host.setup host.sets.items (slice_set (slice_set host.logs.items t y) t z)) (sym grown)
          (subst (λ (l : List LogIndex). HostTies (entries ++ map (Took t) items) host.setup host.sets.items l) (sym (set-set host.logs.items t y z)) tied);
    }

pub invariant_of-self-in-Err : goal.invariant_of-self-in-Err
invariant_of-self-in-Err g c =
    let host = c.args.self.now in
    let entries = entries_of host in
    let t = c.args.terminal in
    let items = c.args.items.now in
    let x = c.index_mut.result.now in
    let y = c.note.new.self in
    let z = c.forget.new.self in
    let inside = subst (λ (s : HostSettings). t < length s.terminals) (sym host.ties.set_up) c.requires.may.within in
    let placed : t < length host.logs.items = subst (λ (n : ℕ). t < n) (sym host.wide) inside in
    let own : IsIndex entries t x = host.ties.logs_are t x (slice_get_read host.logs.items _ t x (sym host.wide) inside c.index_mut.ensures.value) in
    let noted : IsNoted entries t items y = c.in_ok-note.ensures.noted entries t own c.requires.may.fit in
    let same : c.index_mut-in-Err.result.now ≡ y = c.index_mut-in-Err.ensures.value ∙ get_or-set_same host.logs.items t y c.index_mut-in-Err.result.now placed in
    let stays = c.in-Err.ensures.adds.stays in
    let index : IsIndex entries t z = c.forget.ensures entries t (subst (λ (i : LogIndex). IsNoted entries t items i) (sym same) noted) in
    let tied = ties_swapped entries host.setup host.sets.items host.logs.items t z host.ties index in
    let kept : entries_in c.add_group.new.self ≡ entries = stays.refused in
    record {
      named = host.named;
      wide = length_replaced (slice_set host.logs.items t y) t z ∙ (length_replaced host.logs.items t y ∙ host.wide);
      readable = stays.is_readable ∙ host.readable;
      ties =
          subst (λ (es : List HostEntry). HostTies es host.setup host.sets.items (slice_set (slice_set host.logs.items t y) t z)) (sym kept)
          (subst (λ (l : List LogIndex). HostTies entries host.setup host.sets.items l) (sym (set-set host.logs.items t y z)) tied);
    }

pub returns-in-Ok-clause-adds : goal.returns-in-Ok-clause-adds
returns-in-Ok-clause-adds g c = subst (λ (l : List HostEntry). Adds c.args.self.now.ledger c.add_group.new.self l (ending None)) c.requires.group c.in-Ok.ensures.adds

pub returns-in_err-note-clause-adds : goal.returns-in_err-note-clause-adds
returns-in_err-note-clause-adds g c =
    let host = c.args.self.now in
    let added = map (Took c.args.terminal) c.args.items.now in
    subst (λ (f : Option HostFault). Adds host.ledger host.ledger added {T = Unit {0}} (ending f)) (sym (lacks_fault c.from_residual.result c.from_residual.ensures.1))
    (fails_reading host host added Memory (lacks_behind host host c.idle.ensures))
