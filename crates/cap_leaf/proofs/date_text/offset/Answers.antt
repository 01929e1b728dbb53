use Rattle.std.proofs.Common.{true, ◌≡◌, refl}
use Rattle.std.specs.Prelude.{nat_lt}
use Rattle.cap_leaf.proofs.Moments.{offset_of}
use Rattle.cap_leaf.proofs.date_text.offset.Goals as goal

pub number_at-requires-clause-digits : goal.number_at-requires-clause-digits
number_at-requires-clause-digits c = (offset_of c.args.text.now c.requires).hours

pub number_at-requires-2-clause-digits : goal.number_at-requires-2-clause-digits
number_at-requires-2-clause-digits c = (offset_of c.args.text.now c.requires).minutes

pub returns-clause-small : goal.returns-clause-small
returns-clause-small c =
    let ranges = offset_of c.args.text.now c.requires in
    let h : nat_lt c.number_at.result 24 ≡ true = rw c.number_at.ensures.value ranges.hour in
    let m : nat_lt c.number_at-2.result 60 ≡ true = rw c.number_at-2.ensures.value ranges.minute in
    rw (h, m) refl
