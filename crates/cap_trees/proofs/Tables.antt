-- The tables of the messages pass the tests.
use Rattle.std.proofs.Common.{ℕ, ◌≡◌, ◌≤◌, List, Bool, true, false, refl, not, rules, nat_le, Option, Some, None}
use Rattle.std.specs.Prelude.{◌&&◌}
use Rattle.std.specs.Str.{bytes_eq}
use Rattle.cap_leaf.specs.declared.leaf.Leaf.{Leaf}
use Rattle.cap_leaf.specs.declared.kinds.Kind.{Kind}
use Rattle.cap_leaf.specs.declared.kinds.Kind.TheVariants.{Caaa001, Caaa002, Caaa003, Caaa004, Caaa005, Caaa006, Caaa007, Caaa008, Caaa009, Caaa010, Caaa011, Caaa012, Caaa013, Caaa014, Caaa015, Catm001, Catm002, Catm003, Catm004}
use Rattle.cap_leaf.specs.Schema.{Content, Table, leaf, all, one_of, end, row}
use Rattle.cap_leaf.specs.Spelling.{leaf_of, is_kind}
use Rattle.cap_trees.specs.Tables.{table_of}
use Rattle.cap_trees.specs.Tests.{AllTags, Other, Differ, DifferIn, no_tag, differ_test, differ_in, is_name, sample, is_some, has_row, sound_test, sound_in, Sound, SoundIn, bounded_in}

both : (a b : Bool) → (a && b) ≡ true → (a ≡ true) × (b ≡ true)
both true b e = (refl, e)
both false b e = cc

is_not : (b : Bool) → not b ≡ true → b ≡ false
is_not true e = cc
is_not false e = refl

others : (t : List ℕ) (r : Table) → no_tag t r ≡ true → AllTags (Other t) r
others t end e = tt
others t (row g least most c rest) e = let p = both (not (bytes_eq t g)) (no_tag t rest) e in (is_not (bytes_eq t g) p.0, others t rest p.1)

mutual
  pub differ : (t : Table) → differ_test t ≡ true → Differ t
  differ end e = tt
  differ (row t least most c rest) e =
      let p = both (no_tag t rest) (differ_in c && differ_test rest) e in
      let q = both (differ_in c) (differ_test rest) p.1 in
      (others t rest p.0, differ_content c q.0, differ rest q.1)

  pub differ_content : (c : Content) → differ_in c ≡ true → DifferIn c
  differ_content (leaf k) e = tt
  differ_content (all t) e = differ t e
  differ_content (one_of t) e = differ t e

some_of : (o : Option Leaf) → is_some o ≡ true → (x : Leaf) × (o ≡ Some x)
some_of None e = cc
some_of (Some x) e = (x, refl)

at_most : (n m : ℕ) → nat_le n m ≡ true → n ≤ m
at_most n m e = search rules

mutual
  pub sound : (t : Table) → sound_test t ≡ true → Sound t
  sound end e = tt
  sound (row t least most c rest) e =
      let p = both (nat_le least most && is_name t) (sound_in c && sound_test rest) e in
      let q = both (nat_le least most) (is_name t) p.0 in
      let r = both (sound_in c) (sound_test rest) p.1 in
      (at_most least most q.0, q.1, sound_content c r.0, sound rest r.1)

  pub sound_content : (c : Content) → sound_in c ≡ true → SoundIn c
  sound_content (leaf k) e =
      let p = both (is_kind k) (is_some (leaf_of k (sample k))) e in
      let s = some_of (leaf_of k (sample k)) p.1 in
      (sample k, s.0, s.1, p.0)
  sound_content (all t) e = sound t e
  sound_content (one_of t) e = let p = both (sound_test t) (has_row t) e in (sound t p.0, p.1)

pub tables_differ : (k : Kind) → Differ (table_of k)
tables_differ Caaa001 = differ (table_of Caaa001) refl
tables_differ Caaa002 = differ (table_of Caaa002) refl
tables_differ Caaa003 = differ (table_of Caaa003) refl
tables_differ Caaa004 = differ (table_of Caaa004) refl
tables_differ Caaa005 = differ (table_of Caaa005) refl
tables_differ Caaa006 = differ (table_of Caaa006) refl
tables_differ Caaa007 = differ (table_of Caaa007) refl
tables_differ Caaa008 = differ (table_of Caaa008) refl
tables_differ Caaa009 = differ (table_of Caaa009) refl
tables_differ Caaa010 = differ (table_of Caaa010) refl
tables_differ Caaa011 = differ (table_of Caaa011) refl
tables_differ Caaa012 = differ (table_of Caaa012) refl
tables_differ Caaa013 = differ (table_of Caaa013) refl
tables_differ Caaa014 = differ (table_of Caaa014) refl
tables_differ Caaa015 = differ (table_of Caaa015) refl
tables_differ Catm001 = differ (table_of Catm001) refl
tables_differ Catm002 = differ (table_of Catm002) refl
tables_differ Catm003 = differ (table_of Catm003) refl
tables_differ Catm004 = differ (table_of Catm004) refl

pub tables_sound : (k : Kind) → Sound (table_of k)
tables_sound Caaa001 = sound (table_of Caaa001) refl
tables_sound Caaa002 = sound (table_of Caaa002) refl
tables_sound Caaa003 = sound (table_of Caaa003) refl
tables_sound Caaa004 = sound (table_of Caaa004) refl
tables_sound Caaa005 = sound (table_of Caaa005) refl
tables_sound Caaa006 = sound (table_of Caaa006) refl
tables_sound Caaa007 = sound (table_of Caaa007) refl
tables_sound Caaa008 = sound (table_of Caaa008) refl
tables_sound Caaa009 = sound (table_of Caaa009) refl
tables_sound Caaa010 = sound (table_of Caaa010) refl
tables_sound Caaa011 = sound (table_of Caaa011) refl
tables_sound Caaa012 = sound (table_of Caaa012) refl
tables_sound Caaa013 = sound (table_of Caaa013) refl
tables_sound Caaa014 = sound (table_of Caaa014) refl
tables_sound Caaa015 = sound (table_of Caaa015) refl
tables_sound Catm001 = sound (table_of Catm001) refl
tables_sound Catm002 = sound (table_of Catm002) refl
tables_sound Catm003 = sound (table_of Catm003) refl
tables_sound Catm004 = sound (table_of Catm004) refl

pub tables_bounded : (k : Kind) → bounded_in (all (table_of k)) ≡ true
tables_bounded Caaa001 = refl
tables_bounded Caaa002 = refl
tables_bounded Caaa003 = refl
tables_bounded Caaa004 = refl
tables_bounded Caaa005 = refl
tables_bounded Caaa006 = refl
tables_bounded Caaa007 = refl
tables_bounded Caaa008 = refl
tables_bounded Caaa009 = refl
tables_bounded Caaa010 = refl
tables_bounded Caaa011 = refl
tables_bounded Caaa012 = refl
tables_bounded Caaa013 = refl
tables_bounded Caaa014 = refl
tables_bounded Caaa015 = refl
tables_bounded Catm001 = refl
tables_bounded Catm002 = refl
tables_bounded Catm003 = refl
tables_bounded Catm004 = refl
