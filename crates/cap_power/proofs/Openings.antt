-- What came of an opening, as a fate of the model.
use Rattle.std.proofs.Common.{◌≡◌, ℕ, Bool, true, false, List, [], ◌++◌, take, Some, refl, sym, ◌∙◌, subst, inl}
use Rattle.std.specs.Prelude.{nat_le}
use Rattle.std.proofs.lemmas.Bool.{cond-false}
use Rattle.std.proofs.lemmas.Option.{same_Some}
use Rattle.cap_disk.specs.declared.arming.Fill.{Fill}
use Rattle.cap_disk.specs.declared.memory.MemoryDisk.{MemoryDisk}
use Rattle.cap_journal.specs.File.{Reading, Has}
use Rattle.cap_schedule.specs.declared.outcome.Outcome.{Outcome}
use Rattle.cap_schedule.specs.declared.outcome.Outcome.TheVariants.{WasCut, DiskFailed, Restarted}
use Rattle.cap_schedule.specs.declared.schedule.Prefix.TheVariants.{Cut, Fail}
use Rattle.cap_plays.specs.Plays.{Doubt, no_doubt, MayKeep}
use Rattle.cap_plays.specs.Corresponds.{Holds, EachHas, HasOne}
use Rattle.cap_plays.specs.Holding.{end_is_off, end_opened, end_opening_broken, end_opening_failed}
use Rattle.cap_power.specs.Images.{images_of}
use Rattle.cap_power.specs.Standing.{Stands, IsReady, IsOnWith, IsOffWithOne}
use Rattle.cap_power.specs.Fates.{Fate, opened, not_opened, opening, MeetsFate, Opens}
use Rattle.cap_power.specs.declared.power.Power.{Power}
use Rattle.cap_power.specs.declared.power.Power.TheVariants.{Off}
use Rattle.cap_power.specs.declared.power.Settled.{Settled}

-- an image reads one way
pub has_one : {Entry : Type 0} (reading : Reading Entry) → HasOne (Has reading)
has_one reading image list other is is_other = same_Some _ _ (sym is_other ∙ is)

pub ready_off : {End : Type 0} (has_failed : End → Bool) (disk : End → MemoryDisk) (most : ℕ) (power : Power End) (left : MemoryDisk) → power ≡ Off left → IsReady has_failed disk most power
ready_off {End = End} has_failed disk most power left is = subst (λ (p : Power End). IsReady has_failed disk most p) (sym is) tt

module _ {T Entry : Type 0} (reading : Reading Entry) (entries : T → List Entry) (disk : T → MemoryDisk) where
  -- the fate that an opening meets, whatever the doubt leaves open
  abbrev pub Meets : (List ℕ → Type 0) → Settled T → (Doubt → ℕ → List Entry → List Entry → Fate Entry) → Type 0
  Meets images after fate =
      (settled tried : List Entry) (doubt : Doubt) → Holds (Has reading) images settled tried doubt
      → (kept : ℕ) × MayKeep doubt kept × MeetsFate (Has reading) entries disk after (fate doubt kept settled tried)

  pub meets_on : (images : List ℕ → Type 0) (shown : List ℕ) (list : List Entry) (after : Settled T) → images shown → Has reading shown list → IsOnWith (Has reading) entries disk list after
      → Meets images after (λ doubt kept settled tried. opened true kept settled tried Restarted)
  meets_on images shown list after is_image found on settled tried doubt holds =
      let off = end_is_off (Has reading) images [] settled tried doubt holds in
      let (kept, keeps, stands) =
      end_opened (Has reading) images (images_of (disk on.end)) false [] (entries on.end) settled tried false doubt shown (has_one reading) off is_image
      (subst (λ (l : List Entry). Has reading shown l) (sym on.entries_are) found)
      (subst (λ (l : List Entry). EachHas (Has reading) (images_of (disk on.end)) l) (sym on.entries_are) on.each) in (
        kept,
        keeps,
        (subst (λ (p : Power T). Stands (Has reading) entries disk p (settled ++ take kept tried) [] true (no_doubt 0)) (sym on.power_is) stands, on.outcome_is),
      )

  pub meets_off : (images : List ℕ → Type 0) (mid : MemoryDisk) (outcome : Outcome) (after : Settled T) → ((image : List ℕ) → images_of mid image → images image) → IsOffWithOne mid outcome after
      → Meets images after (λ doubt kept settled tried. opened false kept settled tried outcome)
  meets_off images mid outcome after fewer off settled tried doubt holds =
      let before = end_is_off (Has reading) images [] settled tried doubt holds in
      let (kept, keeps, stands) = end_opening_broken (Has reading) images (images_of off.left) false [] [] settled tried false doubt off.that before (fewer off.that off.is_old) off.one in (
        kept,
        keeps,
        (subst (λ (p : Power T). Stands (Has reading) entries disk p (settled ++ take kept tried) [] false (no_doubt 0)) (sym off.power_is) stands, off.outcome_is),
      )

  pub meets_still : (images : List ℕ → Type 0) (left : MemoryDisk) (after : Settled T) → ((image : List ℕ) → images_of left image → images image) → after.power ≡ Off left → after.outcome ≡ DiskFailed
      → Meets images after (λ doubt kept settled tried. not_opened doubt settled tried)
  meets_still images left after fewer power_is outcome_is settled tried doubt holds =
      let before = end_is_off (Has reading) images [] settled tried doubt holds in
      let stands = end_opening_failed (Has reading) images (images_of left) false [] [] settled tried false doubt before fewer in (
        doubt.least,
        inl refl,
        (subst (λ (p : Power T). Stands (Has reading) entries disk p settled tried false doubt) (sym power_is) stands, outcome_is),
      )

  -- the same fate by another word
  pub meets_same : (images : List ℕ → Type 0) (after : Settled T) (fate other : Doubt → ℕ → List Entry → List Entry → Fate Entry)
      → ((doubt : Doubt) (kept : ℕ) (settled tried : List Entry) → other doubt kept settled tried ≡ fate doubt kept settled tried) → Meets images after fate → Meets images after other
  meets_same images after fate other same meets settled tried doubt holds =
      let (kept, keeps, met) = meets settled tried doubt holds in
      (kept, keeps, subst (λ (f : Fate Entry). MeetsFate (Has reading) entries disk after f) (sym (same doubt kept settled tried)) met)

  -- a call past the opening's, and one of them
  pub opens_past_cut : (images : List ℕ → Type 0) (after : Settled T) (call : ℕ) (fill : Fill) → nat_le call 2 ≡ false
      → Meets images after (λ doubt kept settled tried. opened true kept settled tried Restarted) → Opens (Has reading) entries disk (Some (Cut call fill)) images after
  opens_past_cut images after call fill past meets =
      meets_same images after (λ doubt kept settled tried. opened true kept settled tried Restarted) (λ doubt kept settled tried. opening (Some (Cut call fill)) doubt kept settled tried)
      (λ doubt kept settled tried. cond-false (nat_le call 2) _ _ past) meets

  pub opens_past_fail : (images : List ℕ → Type 0) (after : Settled T) (call : ℕ) (fill : Fill) → nat_le call 2 ≡ false
      → Meets images after (λ doubt kept settled tried. opened true kept settled tried Restarted) → Opens (Has reading) entries disk (Some (Fail call fill)) images after
  opens_past_fail images after call fill past meets =
      meets_same images after (λ doubt kept settled tried. opened true kept settled tried Restarted) (λ doubt kept settled tried. opening (Some (Fail call fill)) doubt kept settled tried)
      (λ doubt kept settled tried. cond-false (nat_le call 2) _ _ past) meets

  pub opens_second_cut : (images : List ℕ → Type 0) (after : Settled T) (call : ℕ) (fill : Fill) → call ≡ 2
      → Meets images after (λ doubt kept settled tried. opened false kept settled tried WasCut) → Opens (Has reading) entries disk (Some (Cut call fill)) images after
  opens_second_cut images after call fill is meets = subst (λ (n : ℕ). Opens (Has reading) entries disk (Some (Cut n fill)) images after) (sym is) meets

  pub opens_second_fail : (images : List ℕ → Type 0) (after : Settled T) (call : ℕ) (fill : Fill) → call ≡ 2
      → Meets images after (λ doubt kept settled tried. opened false kept settled tried DiskFailed) → Opens (Has reading) entries disk (Some (Fail call fill)) images after
  opens_second_fail images after call fill is meets = subst (λ (n : ℕ). Opens (Has reading) entries disk (Some (Fail n fill)) images after) (sym is) meets
