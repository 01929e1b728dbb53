-- The power of a host that stands to one of the model is on exactly where that one is.
use Rattle.std.proofs.Common.{◌≡◌, ℕ, Bool, true, false, List, Ok, Err, refl, sym, ◌∙◌, subst}
use Rattle.std.specs.Prelude.{Result, OnOk, OnErr}
use Rattle.cap_disk.specs.declared.memory.MemoryDisk.{MemoryDisk}
use Rattle.cap_entries.specs.declared.host.HostEntry.{HostEntry}
use Rattle.cap_world.specs.World.{HostState}
use Rattle.cap_plays.specs.Plays.{Doubt}
use Rattle.cap_power.specs.Standing.{fails}
use Rattle.cap_power.specs.declared.power.Power.{Power}
use Rattle.cap_power.specs.declared.power.Power.TheVariants.{On, Off, Lent}
use Rattle.cap_host_side.specs.Sides.{HostStands}

not_both : (b : Bool) → true ≡ b → b ≡ false → ⊥
not_both b is is_not = cc

neither : (b : Bool) → false ≡ b → b ≡ true → ⊥
neither b is_not is = cc

module _ {H : Type 0} (entries : H → List HostEntry) (disk : H → MemoryDisk) (failed : H → Bool) where
  pub stands_at : (most : ℕ) (power : Power H) (other : Power H) (s : HostState) (doubt : Doubt) → other ≡ power → HostStands entries disk failed most power s doubt → HostStands entries disk failed most other s doubt
  stands_at most power other s doubt same stands = subst (λ (p : Power H). HostStands entries disk failed most p s doubt) (sym same) stands

  pub never_off : (most : ℕ) (power : Power H) (host : H) (s : HostState) (doubt : Doubt) → On host ≡ power → HostStands entries disk failed most power s doubt → s.on ≡ false → ⊥
  never_off most power host s doubt same stands off = not_both s.on (stands_at most power (On host) s doubt same stands).stands.on_is off

  pub never_on : (most : ℕ) (power : Power H) (left : MemoryDisk) (s : HostState) (doubt : Doubt) → Off left ≡ power → HostStands entries disk failed most power s doubt → s.on ≡ true → ⊥
  never_on most power left s doubt same stands on = neither s.on (stands_at most power (Off left) s doubt same stands).stands.on_is on

pub works_at : {H : Type 0} (failed : H → Bool) (power : Power H) (host : H) → On host ≡ power → fails failed power ≡ false → failed host ≡ false
works_at {H = H} failed power host same works = subst (λ (p : Power H). fails failed p ≡ false) (sym same) works

-- after a line: an error leaves it in other hands
pub works_after : {H T E : Type 0} (failed : H → Bool) (result : Result T E) (new old : Power H) → OnOk result (fails failed new ≡ false) → OnErr result (new ≡ old) → old ≡ Lent → fails failed new ≡ false
works_after failed (Ok value) new old works same lent = works
works_after {H = H} failed (Err error) new old works same lent = subst (λ (p : Power H). fails failed p ≡ false) (sym (same ∙ lent)) refl
