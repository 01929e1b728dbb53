-- What the calls of an end and of its disk make of the images that a crash may leave, in the words of the model. `has image list` says that opening
-- the image gives the list.
use Rattle.std.proofs.Common.{◌≡◌, ℕ, Bool, true, false, List, [], ◌++◌, length, take, refl, sym, ◌∙◌, ap, subst, inl, inr, ⊎_elim, append-nil}
use Rattle.std.proofs.Math.Seq.{take-length, take-nil}
use Rattle.cap_plays.specs.Plays.{Doubt, no_doubt, MayKeep, in_doubt}
use Rattle.cap_plays.specs.Corresponds.{Holds, EachHas, EachHasEither, HasOne, EndCorresponds}

off_is_not_on : false ≡ true → ⊥
off_is_not_on e = cc

module _ {Entry : Type 0} (has : List ℕ → List Entry → Type 0) where
  -- fewer images
  pub holds_fewer : (images fewer : List ℕ → Type 0) (settled tried : List Entry) (doubt : Doubt) → Holds has images settled tried doubt → ((image : List ℕ) → fewer image → images image) → Holds has fewer settled tried doubt
  holds_fewer images fewer settled tried doubt holds is = λ image left. holds image (is image left)

  -- all entries are settled
  pub holds_settled : (images : List ℕ → Type 0) (settled : List Entry) → EachHas has images settled → Holds has images settled [] (no_doubt 0)
  holds_settled images settled each = λ image left. (0, inl refl, subst (has image) (sym (append-nil settled)) (each image left))

  -- a call of a group failed
  pub holds_either : (images : List ℕ → Type 0) (settled added : List Entry) → EachHasEither has images settled (settled ++ added) → Holds has images settled added (in_doubt added)
  holds_either images settled added each = λ image left.
      ⊎_elim (λ before. (0, inl refl, subst (has image) (sym (append-nil settled)) before))
      (λ after. (length added, inr refl, subst (λ l. has image (settled ++ l)) (sym (take-length added)) after)) (each image left)

  -- the power goes after the call
  pub holds_after : (images : List ℕ → Type 0) (settled added : List Entry) → EachHas has images (settled ++ added) → Holds has images settled added (no_doubt (length added))
  holds_after images settled added each = λ image left. (length added, inl refl, subst (λ l. has image (settled ++ l)) (sym (take-length added)) (each image left))

  -- a call added its entries
  pub end_added : (images : List ℕ → Type 0) (entries settled added : List Entry) → entries ≡ settled ++ added → EachHas has images entries
      → EndCorresponds has images true entries (settled ++ added) [] true (no_doubt 0)
  end_added images entries settled added is each = record {
    on_is = refl;
    entries_are = λ on. is;
    none_tried = λ on. refl;
    holds = holds_settled images (settled ++ added) (subst (EachHas has images) is each);
  }

  -- an end that is off
  pub end_is_off : (images : List ℕ → Type 0) (entries settled tried : List Entry) (doubt : Doubt) → Holds has images settled tried doubt → EndCorresponds has images false entries settled tried false doubt
  end_is_off images entries settled tried doubt holds = record {
    on_is = refl;
    entries_are = λ on. absurd (off_is_not_on on);
    none_tried = λ on. absurd (off_is_not_on on);
    holds = holds;
  }

  -- one of the four device calls of its group failed, with a cut or without
  pub end_broken : (images : List ℕ → Type 0) (entries settled added : List Entry) → EachHasEither has images settled (settled ++ added) → EndCorresponds has images false entries settled added false (in_doubt added)
  end_broken images entries settled added each = end_is_off images entries settled added (in_doubt added) (holds_either images settled added each)

  -- the power goes after the call
  pub end_cut : (images : List ℕ → Type 0) (entries settled added : List Entry) → EachHas has images (settled ++ added) → EndCorresponds has images false entries settled added false (no_doubt (length added))
  end_cut images entries settled added each = end_is_off images entries settled added (no_doubt (length added)) (holds_after images settled added each)

  -- the power goes where nothing is tried
  pub end_goes_off : (images fewer : List ℕ → Type 0) (entries after settled tried : List Entry) (is_on : Bool) (doubt : Doubt)
      → EndCorresponds has images true entries settled tried is_on doubt → ((image : List ℕ) → fewer image → images image) → EndCorresponds has fewer false after (settled ++ take 0 tried) [] false (no_doubt 0)
  end_goes_off images fewer entries after settled tried is_on doubt stands is =
      let none : tried ≡ [] = stands.none_tried refl in
      end_is_off fewer after (settled ++ take 0 tried) [] (no_doubt 0) (holds_settled fewer (settled ++ take 0 tried) (λ image left.
      let (kept, keeps, held) = stands.holds image (is image left) in
      subst (has image) (ap (λ l. settled ++ l) (ap (take kept) none ∙ take-nil kept)) held))

  -- an end stands as before with the same entries and fewer images, as where its disk was armed, or where it is off and its disk was restarted
  pub end_fewer : (images fewer : List ℕ → Type 0) (on : Bool) (entries after settled tried : List Entry) (is_on : Bool) (doubt : Doubt)
      → EndCorresponds has images on entries settled tried is_on doubt → (on ≡ true → after ≡ entries) → ((image : List ℕ) → fewer image → images image) → EndCorresponds has fewer on after settled tried is_on doubt
  end_fewer images fewer on entries after settled tried is_on doubt stands same is = record {
    on_is = stands.on_is;
    entries_are = λ on. same on ∙ stands.entries_are on;
    none_tried = stands.none_tried;
    holds = holds_fewer images fewer settled tried doubt stands.holds is;
  }

  -- an opening gives what one of the images has, and then every image has it
  pub end_opened : (images opened : List ℕ → Type 0) (on : Bool) (before entries settled tried : List Entry) (is_on : Bool) (doubt : Doubt) (shown : List ℕ)
      → HasOne has → EndCorresponds has images on before settled tried is_on doubt → images shown → has shown entries → EachHas has opened entries
      → (kept : ℕ) × MayKeep doubt kept × EndCorresponds has opened true entries (settled ++ take kept tried) [] true (no_doubt 0)
  end_opened images opened on before entries settled tried is_on doubt shown one stands is_image found each =
      let (kept, keeps, held) = stands.holds shown is_image in
      let e : entries ≡ settled ++ take kept tried = one shown (settled ++ take kept tried) entries held found in (
        kept,
        keeps,
        record {
          on_is = refl;
          entries_are = λ on. e;
          none_tried = λ on. refl;
          holds = holds_settled opened (settled ++ take kept tried) (subst (EachHas has opened) e each);
        },
      )

  -- one of its two calls ended it, and one image is left: after a cut, or after a sync that succeeded
  pub end_opening_broken : (images left : List ℕ → Type 0) (on : Bool) (before entries settled tried : List Entry) (is_on : Bool) (doubt : Doubt) (that : List ℕ)
      → EndCorresponds has images on before settled tried is_on doubt → images that → ((image : List ℕ) → left image → image ≡ that)
      → (kept : ℕ) × MayKeep doubt kept × EndCorresponds has left false entries (settled ++ take kept tried) [] false (no_doubt 0)
  end_opening_broken images left on before entries settled tried is_on doubt that stands is_image one =
      let (kept, keeps, held) = stands.holds that is_image in (
        kept,
        keeps,
        end_is_off left entries (settled ++ take kept tried) [] (no_doubt 0)
            (holds_settled left (settled ++ take kept tried) (λ image is. subst (λ i. has i (settled ++ take kept tried)) (sym (one image is)) held)),
      )

  -- its sync failed without a cut: what was tried stays tried
  pub end_opening_failed : (images left : List ℕ → Type 0) (on : Bool) (before entries settled tried : List Entry) (is_on : Bool) (doubt : Doubt)
      → EndCorresponds has images on before settled tried is_on doubt → ((image : List ℕ) → left image → images image) → EndCorresponds has left false entries settled tried false doubt
  end_opening_failed images left on before entries settled tried is_on doubt stands fewer = end_is_off left entries settled tried doubt (holds_fewer images left settled tried doubt stands.holds fewer)

  -- an end that is on: every image has its entries
  pub end_has : (images : List ℕ → Type 0) (on : Bool) (entries settled tried : List Entry) (is_on : Bool) (doubt : Doubt)
      → EndCorresponds has images on entries settled tried is_on doubt → is_on ≡ true → EachHas has images settled
  end_has images on entries settled tried is_on doubt stands is = λ image left.
      let none : tried ≡ [] = stands.none_tried (stands.on_is ∙ is) in
      let (kept, keeps, held) = stands.holds image left in
      subst (has image) (ap (λ l. settled ++ l) (ap (take kept) none ∙ take-nil kept) ∙ append-nil settled) held
