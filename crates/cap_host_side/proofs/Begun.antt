-- A host of its set-up alone, and a host that is asked for its disk.
use Rattle.std.proofs.Common.{◌≡◌, ℕ, ◌==◌, Bool, true, false, List, [], ◌∷◌, Option, Some, None, length, refl, sym, ◌∙◌, subst}
use Rattle.std.proofs.lemmas.Bool.{and_parts, and_from}
use Rattle.std.specs.Prelude.{◌&&◌, not, nat_le, bytes_eq, option_map}
use Rattle.std.specs.List.{list_all, list_any}
use Rattle.cap_base.specs.Text.{is_ident}
use Rattle.cap_leaf.specs.Date.{DateParts, is_date_time}
use Rattle.cap_leaf.specs.DateText.{date_time_of}
use Rattle.cap_leaf.specs.declared.leaf.Leaf.TheVariants as leaf
use Rattle.cap_disk.specs.Disk.{Counts, StaysCounted}
use Rattle.cap_disk.specs.MemoryDisk.{told_of}
use Rattle.cap_disk.specs.declared.memory.MemoryDisk.{MemoryDisk}
use Rattle.cap_journal.specs.File.{Has}
use Rattle.cap_entries.specs.Lists.{is_prefix, is_idents, is_blocks}
use Rattle.cap_entries.specs.RecordDates.{date_only}
use Rattle.cap_entries.specs.RecordField.{is_amount, is_block}
use Rattle.cap_entries.specs.Settings.{HostSettings, is_host_settings}
use Rattle.cap_entries.specs.declared.host.HostEntry.{HostEntry}
use Rattle.cap_entries.specs.declared.host.HostEntry.TheVariants.{Setup}
use Rattle.cap_entries.specs.HostRecord.{is_host_field, host_reading}
use Rattle.cap_world.specs.World.{HostState}
use Rattle.cap_plays.specs.Plays.{Doubt, no_doubt}
use Rattle.cap_plays.specs.Corresponds.{EachHas, EndCorresponds}
use Rattle.cap_plays.specs.Holding.{end_added, end_has}
use Rattle.cap_power.specs.Counting.{Counting}
use Rattle.cap_power.specs.Images.{images_of, NoOthers}
use Rattle.cap_power.specs.declared.power.Power.{Power}
use Rattle.cap_power.specs.declared.power.Power.TheVariants.{On, Lent}
use Rattle.cap_host_side.specs.Sides.{HostStands}
use Rattle.cap_host_side.proofs.Powers.{stands_at}

-- a date whose spelling reads back keeps its rule
date_back : (text : List ℕ) (found : Option DateParts) (d : DateParts) → date_time_of text ≡ found → option_map leaf.DateTime found ≡ Some (leaf.DateTime d) → is_date_time d ≡ true
date_back text None d is back = cc
date_back text (Some e) d is back = (date_only text d (is ∙ date_is e d back)).0
  where
    date_is : (e d : DateParts) → Some (leaf.DateTime e) ≡ Some (leaf.DateTime d) → Some e ≡ Some d
    date_is e d back = cc

pub date_holds : (text : List ℕ) (d : DateParts) → option_map leaf.DateTime (date_time_of text) ≡ Some (leaf.DateTime d) → is_date_time d ≡ true
date_holds text d back = date_back text (date_time_of text) d refl back

-- six digits each
blocks_hold : (prefixes : List (List ℕ)) → list_all (λ prefix. length prefix == 6) prefixes ≡ true → list_all is_prefix prefixes ≡ true → list_all is_block prefixes ≡ true
blocks_hold [] long spelt = refl
blocks_hold (prefix ∷ prefixes) long spelt =
    let l = and_parts (length prefix == 6) (list_all (λ other. length other == 6) prefixes) long in
    let s = and_parts (is_prefix prefix) (list_all is_prefix prefixes) spelt in
    and_from (is_block prefix) (list_all is_block prefixes) (and_from (length prefix == 6) (is_prefix prefix) l.0 s.0) (blocks_hold prefixes l.1 s.1)

-- a set-up whose fields keep their rules fits its record
pub fields_hold : (s : HostSettings) → is_host_settings s ≡ true → is_ident s.host ≡ true → is_amount s.limit ≡ true → list_all (λ prefix. length prefix == 6) s.blocked ≡ true
    → is_date_time s.start ≡ true → list_all is_ident s.terminals ≡ true → is_host_field s ≡ true
fields_hold s rule host limit long start terminals =
    let lists = and_parts (is_idents s.terminals && is_blocks s.blocked) (nat_le s.poll 525600 && not (list_any (bytes_eq s.host) s.terminals)) rule in
    let blocks = and_parts (is_idents s.terminals) (is_blocks s.blocked) lists.0 in
    let spelt = and_parts (nat_le (length s.blocked) 64) (list_all is_prefix s.blocked) blocks.1 in
    and_from _ _ (and_from _ _ host (and_from _ _ limit (and_from _ _ (blocks_hold s.blocked long spelt.1) (and_from _ _ start terminals)))) rule

-- the numbers that a disk told stay
counted_still : (most : ℕ) (old new : Option Counts) → Counting None most old → StaysCounted old new → Counting None most new
counted_still most old new counting stays = record {
  calls = counting.calls;
  few = counting.few;
  is = subst (λ (o : Option Counts). StaysCounted o new) counting.is stays;
}

module _ {H : Type 0} (entries : H → List HostEntry) (disk : H → MemoryDisk) (failed : H → Bool) where
  -- a host of its set-up alone
  pub new_stands : (settings : HostSettings) (host : H) (list : List HostEntry) (old : MemoryDisk)
      → entries host ≡ list → list ≡ Setup settings ∷ [] → failed host ≡ false → NoOthers old (disk host) → EachHas (Has host_reading) (images_of old) list
      → Counting None 7 (told_of old) → StaysCounted (told_of old) (told_of (disk host))
      → HostStands entries disk failed 7 (On host) (record { settled = Setup settings ∷ []; tried = []; on = true }) (no_doubt 0)
  new_stands settings host list old same is works fewer each counting stays = record {
    stands = end_added (Has host_reading) (images_of (disk host)) (entries host) [] (Setup settings ∷ []) (same ∙ is)
        (λ image left. subst (λ (l : List HostEntry). Has host_reading image l) (sym same) (each image (fewer image left)));
    ready = (works, counted_still 7 (told_of old) (told_of (disk host)) counting stays);
  }

  -- its disk, where it is on
  pub disk_has : (most : ℕ) (power : Power H) (host : H) (left : MemoryDisk) (s : HostState) (doubt : Doubt)
      → On host ≡ power → left ≡ disk host → HostStands entries disk failed most power s doubt → s.on ≡ true → EachHas (Has host_reading) (images_of left) s.settled
  disk_has most power host left s doubt is same stands on =
      let end : EndCorresponds (Has host_reading) (images_of (disk host)) true (entries host) s.settled s.tried s.on doubt = (stands_at entries disk failed most power (On host) s doubt is stands).stands in
      subst (λ (d : MemoryDisk). EachHas (Has host_reading) (images_of d) s.settled) (sym same) (end_has (Has host_reading) (images_of (disk host)) true (entries host) s.settled s.tried s.on doubt end on)

  -- no host of the model stands for one in other hands
  pub never_lent : (most : ℕ) (power : Power H) (s : HostState) (doubt : Doubt) → Lent ≡ power → HostStands entries disk failed most power s doubt → ⊥
  never_lent most power s doubt is stands = (stands_at entries disk failed most power Lent s doubt is stands).stands
