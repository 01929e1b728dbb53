-- The ends of a schedule in its first scene, and the disks that they leave in its last.
use Rattle.std.specs.Prelude.{◌≡◌, ℕ, zero, suc, ◌+◌, ◌<◌, ◌≤◌, Bool, true, List, [], ◌∷◌, ◌++◌, length, map, drop, Option, Some, None, option_map, slice_get}
use Rattle.std.proofs.Common.{refl, sym, ◌∙◌, ap, subst, ⊎_elim, get_or, arith}
use Rattle.std.proofs.lemmas.List.{append_assoc, append-nil, length-map, drop_all}
use Rattle.std.proofs.lemmas.Option.{slice_get_within, slice_get_cases, slice_get-map}
use Rattle.std.proofs.Math.Seq.{drop-cons}
use Rattle.std.proofs.Math.Numerals.{add-one}
use Rattle.cap_disk.specs.declared.memory.MemoryDisk.{MemoryDisk}
use Rattle.cap_entries.specs.Settings.{TerminalSettings}
use Rattle.cap_entries.specs.declared.terminal.TermEntry.{TermEntry}
use Rattle.cap_entries.specs.declared.host.HostEntry.{HostEntry}
use Rattle.cap_entries.specs.declared.host.HostEntry.TheVariants.{Setup}
use Rattle.cap_entries.specs.HostRecord.{host_reading}
use Rattle.cap_schedule.specs.declared.schedule.End.TheVariants.{Terminal}
use Rattle.cap_schedule.specs.declared.schedule.Schedule.{Schedule}
use Rattle.cap_world.specs.World.{TerminalState, HostState, started}
use Rattle.cap_plays.specs.Turns.{Scene, counted_at, places_or_none}
use Rattle.cap_plays.specs.Plays.{Doubt, no_doubt, Doubts, doubt_at, doubt_or_none, first_scene, first_doubts}
use Rattle.cap_plays.specs.Laws.{AllOn}
use Rattle.cap_power.specs.declared.power.Power.{Power}
use Rattle.cap_terminal_side.specs.declared.side.Side.{Side}
use Rattle.cap_host_side.specs.Sides.{HostStands}
use Rattle.cap_replay.specs.Disks.{DiskHas, DisksHold}
use Rattle.cap_network.specs.Opened as O
use Rattle.cap_network.specs.Ends.{TerminalStands, EndsStand}

-- elements of a list
not_some : {A : Type 0} (y : A) → None ≡ Some y → ⊥
not_some y e = cc

same_some : {A : Type 0} (x y : A) → Some x ≡ Some y → y ≡ x
same_some x y e = cc

found_from : {A B : Type 0} (f : A → B) (found : Option A) (y : B) → option_map f found ≡ Some y → (x : A) × (found ≡ Some x) × (y ≡ f x)
found_from f None y e = absurd (not_some y e)
found_from f (Some x) y e = (x, refl, same_some (f x) y e)

map_from : {A B : Type 0} (f : A → B) (list : List A) (place : ℕ) (y : B) → slice_get (map f list) place ≡ Some y → (x : A) × (slice_get list place ≡ Some x) × (y ≡ f x)
map_from f list place y at = found_from f (slice_get list place) y (sym (slice_get-map f list place) ∙ at)

map_at : {A B : Type 0} (f : A → B) (list : List A) (place : ℕ) (x : A) → slice_get list place ≡ Some x → slice_get (map f list) place ≡ Some (f x)
map_at f list place x at = slice_get-map f list place ∙ ap (option_map f) at

there_within : {A : Type 0} (list : List A) (place : ℕ) → place < length list → (x : A) × (slice_get list place ≡ Some x)
there_within list place lt = ⊎_elim (λ within. (within.0, within.2)) (λ past. absurd (not_both past.0)) (slice_get_cases list place).1
  where
    not_both : length list ≤ place → ⊥
    not_both le = omega (arith, le, lt)

rest_from : {A : Type 0} (list : List A) (i : ℕ) (x : A) → i < length list → x ≡ get_or list i x → drop i list ≡ x ∷ drop (suc i) list
rest_from list i x lt is = drop-cons list i x lt ∙ ap (λ y. y ∷ drop (suc i) list) (sym is)

-- over what contracts see of a terminal
module _ {T : Type 0} (term_entries : T → List TermEntry) (term_disk : T → MemoryDisk) (term_failed : T → Bool) (power : Side → Power T) where
  abbrev IsStarted : Side → TerminalSettings → Type 0
  IsStarted side settings = O.IsStarted term_entries term_disk term_failed power side settings

  abbrev AreStarted : List Side → List TerminalSettings → Type 0
  AreStarted sides settings = O.AreStarted term_entries term_disk term_failed power sides settings

  abbrev IsDiskOf : Side → MemoryDisk → Type 0
  IsDiskOf side disk = O.IsDiskOf term_entries term_disk term_failed power side disk

  abbrev AreDisksOf : List Side → List MemoryDisk → Type 0
  AreDisksOf sides disks = O.AreDisksOf term_entries term_disk term_failed power sides disks

  one_started : (side : Side) (sides : List Side) (t : TerminalSettings) (settings : List TerminalSettings) → IsStarted side t → AreStarted sides settings → AreStarted (side ∷ sides) (t ∷ settings)
  one_started side sides t settings here are = record { same = ap suc are.same; each = each }
    where
      each : (place : ℕ) (other : Side) (u : TerminalSettings) → slice_get (side ∷ sides) place ≡ Some other → slice_get (t ∷ settings) place ≡ Some u → IsStarted other u
      each zero other u at there = subst (λ (o : Side). IsStarted o u) (sym (same_some side other at)) (subst (λ (v : TerminalSettings). IsStarted side v) (sym (same_some t u there)) here)
      each (suc place) other u at there = are.each place other u at there

  pub started_none : (sides more : List Side) (settings : List TerminalSettings) → sides ≡ [] → AreStarted more settings → AreStarted (sides ++ more) settings
  started_none sides more settings none are = subst (λ (l : List Side). AreStarted (l ++ more) settings) (sym none) are

  pub started_more : (sides new : List Side) (settings : List TerminalSettings) (i : ℕ) (side : Side) (t : TerminalSettings)
      → i < length settings → t ≡ get_or settings i t → IsStarted side t → new ≡ sides ++ side ∷ []
      → ((more : List Side) → AreStarted more (drop i settings) → AreStarted (sides ++ more) settings)
      → (more : List Side) → AreStarted more (drop (i + 1) settings) → AreStarted (new ++ more) settings
  started_more sides new settings i side t lt is here new_is so_far = λ more rest.
      let behind : AreStarted more (drop (suc i) settings) = subst (λ n. AreStarted more (drop n settings)) (add-one i) rest in
      let all : AreStarted (sides ++ side ∷ more) settings =
      so_far (side ∷ more) (subst (λ l. AreStarted (side ∷ more) l) (sym (rest_from settings i t lt is)) (one_started side more t (drop (suc i) settings) here behind)) in
      subst (λ (l : List Side). AreStarted l settings) (sym (ap (λ (l : List Side). l ++ more) new_is ∙ append_assoc sides (side ∷ []) more)) all

  no_sides : (settings : List TerminalSettings) → settings ≡ [] → AreStarted [] settings
  no_sides settings none = record { same = sym (ap (λ (l : List TerminalSettings). length l) none); each = λ place side t at there. absurd (nobody place side at) }
    where
      nobody : (place : ℕ) (side : Side) → slice_get [] place ≡ Some side → ⊥
      nobody zero side at = not_some side at
      nobody (suc place) side at = not_some side at

  pub started_last : (sides : List Side) (settings : List TerminalSettings) (i : ℕ) → length settings ≤ i
      → ((more : List Side) → AreStarted more (drop i settings) → AreStarted (sides ++ more) settings) → AreStarted sides settings
  started_last sides settings i past so_far = subst (λ (l : List Side). AreStarted l settings) (append-nil sides) (so_far [] (no_sides (drop i settings) (drop_all i settings past)))

  one_left : (side : Side) (sides : List Side) (disk : MemoryDisk) (disks : List MemoryDisk) → IsDiskOf side disk → AreDisksOf sides disks → AreDisksOf (side ∷ sides) (disk ∷ disks)
  one_left side sides disk disks here are = record { same = ap suc are.same; each = each }
    where
      each : (place : ℕ) (other : Side) (left : MemoryDisk) → slice_get (side ∷ sides) place ≡ Some other → slice_get (disk ∷ disks) place ≡ Some left → IsDiskOf other left
      each zero other left at there = subst (λ (o : Side). IsDiskOf o left) (sym (same_some side other at)) (subst (λ (d : MemoryDisk). IsDiskOf side d) (sym (same_some disk left there)) here)
      each (suc place) other left at there = are.each place other left at there

  pub left_none : (sides : List Side) (disks more : List MemoryDisk) → disks ≡ [] → AreDisksOf sides more → AreDisksOf sides (disks ++ more)
  left_none sides disks more none are = subst (λ (l : List MemoryDisk). AreDisksOf sides (l ++ more)) (sym none) are

  pub left_more : (sides rest after : List Side) (disks new : List MemoryDisk) (side : Side) (disk : MemoryDisk)
      → rest ≡ side ∷ after → IsDiskOf side disk → new ≡ disks ++ disk ∷ []
      → ((more : List MemoryDisk) → AreDisksOf rest more → AreDisksOf sides (disks ++ more))
      → (more : List MemoryDisk) → AreDisksOf after more → AreDisksOf sides (new ++ more)
  left_more sides rest after disks new side disk rest_is here new_is so_far = λ more are.
      let all : AreDisksOf sides (disks ++ disk ∷ more) = so_far (disk ∷ more) (subst (λ (l : List Side). AreDisksOf l (disk ∷ more)) (sym rest_is) (one_left side after disk more here are)) in
      subst (λ (l : List MemoryDisk). AreDisksOf sides l) (sym (ap (λ (l : List MemoryDisk). l ++ more) new_is ∙ append_assoc disks (disk ∷ []) more)) all

  no_disks : (rest : List Side) → rest ≡ [] → AreDisksOf rest []
  no_disks rest none = record { same = sym (ap (λ (l : List Side). length l) none); each = λ place side disk at there. absurd (nothing place disk there) }
    where
      nothing : (place : ℕ) (disk : MemoryDisk) → slice_get [] place ≡ Some disk → ⊥
      nothing zero disk there = not_some disk there
      nothing (suc place) disk there = not_some disk there

  pub left_last : (sides rest : List Side) (disks : List MemoryDisk) → rest ≡ []
      → ((more : List MemoryDisk) → AreDisksOf rest more → AreDisksOf sides (disks ++ more)) → AreDisksOf sides disks
  left_last sides rest disks none so_far = subst (λ (l : List MemoryDisk). AreDisksOf sides l) (append-nil disks) (so_far [] (no_disks rest none))

module _ {T H : Type 0} (term_entries : T → List TermEntry) (term_disk : T → MemoryDisk) (term_failed : T → Bool)
    (host_entries : H → List HostEntry) (host_disk : H → MemoryDisk) (host_failed : H → Bool) (power : Side → Power T) where
  abbrev OfTerminal : ℕ → Side → TerminalState → List ℕ → Doubt → Type 0
  OfTerminal lines side s places doubt = TerminalStands term_entries term_disk term_failed host_entries host_disk host_failed lines power side s places doubt

  abbrev Stand : ℕ → Power H → List Side → Scene → Doubts → Type 0
  Stand lines host sides w doubts = EndsStand term_entries term_disk term_failed host_entries host_disk host_failed power lines host sides w doubts

  -- the ends as they are set up
  pub first_stand : (s : Schedule) (host : Power H) (sides : List Side)
      → HostStands host_entries host_disk host_failed 7 host (record { settled = Setup s.host ∷ []; tried = []; on = true }) (no_doubt 0)
      → AreStarted term_entries term_disk term_failed power sides s.terminals → Stand 0 host sides (first_scene s) (first_doubts s)
  first_stand s host sides host_is starts =
      let no_places : TerminalSettings → List ℕ = λ (t : TerminalSettings). [] in
      let none : TerminalSettings → Doubt = λ (t : TerminalSettings). no_doubt 0 in
      let many = length-map s.terminals started in
      record {
        host_is = host_is;
        same = starts.same ∙ sym many;
        same_counted = length-map s.terminals no_places ∙ sym many;
        same_doubts = length-map s.terminals none ∙ sym many;
        each = λ place side t at there.
            let (settings, is, t_is) = map_from started s.terminals place t there in
            let counted : counted_at (map no_places s.terminals) place ≡ [] = ap places_or_none (map_at no_places s.terminals place settings is) in
            let doubt : doubt_at (first_doubts s) (Terminal place) ≡ no_doubt 0 = ap doubt_or_none (map_at none s.terminals place settings is) in
            subst (λ (u : TerminalState). OfTerminal 0 side u (counted_at (map no_places s.terminals) place) (doubt_at (first_doubts s) (Terminal place))) (sym t_is)
            (subst (λ (l : List ℕ). OfTerminal 0 side (started settings) l (doubt_at (first_doubts s) (Terminal place))) (sym counted)
            (subst (λ (d : Doubt). OfTerminal 0 side (started settings) [] d) (sym doubt) (starts.each place side settings at is)));
      }

  -- the disks of ends that are on
  pub disks_hold : (lines : ℕ) (host : Power H) (sides : List Side) (left : MemoryDisk) (disks all : List MemoryDisk) (w : Scene) (doubts : Doubts)
      → Stand lines host sides w doubts → AllOn w
      → ((most : ℕ) (s : HostState) (doubt : Doubt) → HostStands host_entries host_disk host_failed most host s doubt → s.on ≡ true → DiskHas host_reading left s.settled)
      → AreDisksOf term_entries term_disk term_failed power sides disks → all ≡ left ∷ disks → DisksHold all w
  disks_hold lines host sides left disks all w doubts stands on has are is = subst (λ (l : List MemoryDisk). DisksHold l w) (sym is) (record {
    host_is = has _ w.host doubts.host stands.host_is on.host;
    same = are.same ∙ stands.same;
    each = λ place disk s at there.
        let (side, here) = there_within sides place (subst (λ n. place < n) are.same (slice_get_within disks place disk at)) in
        are.each place side disk here at _ s _ _ (stands.each place side s here there) (on.terminals place s there);
  })
