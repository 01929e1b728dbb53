use Rattle.std.proofs.Common.{◌≡◌, length, arith}
use Rattle.cap_leaf.specs.Canonical.{date_text}
use Rattle.cap_entries.proofs.Places.{size_of_front}
use Rattle.cap_entries.proofs.fields.date_size.Goals as goal

pub returns-clause-value : goal.returns-clause-value
returns-clause-value c =
    let e : length (date_text c.args.date) ≡ c.spelt-len.result.1 = size_of_front c.spelt-len.result.1 c.spelt-len.result.0 (date_text c.args.date) c.spelt-len.ensures.text (omega (arith, c.spelt-len.ensures.whole, c.spelt-len.ensures.len)) in
    omega (arith, e)
