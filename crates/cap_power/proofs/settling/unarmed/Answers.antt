use Rattle.std.proofs.Common.{◌≡◌, ℕ, false, Option, Some, None, ◌∙◌, ap, arith}
use Rattle.cap_disk.specs.Disk.{Counts}
use Rattle.cap_disk.specs.MemoryDisk.{told_of}
use Rattle.cap_schedule.specs.declared.schedule.Prefix.{Prefix}
use Rattle.cap_schedule.specs.declared.schedule.Prefix.TheVariants.{CutAfter}
use Rattle.cap_power.specs.Counting.{arms}
use Rattle.cap_power.proofs.settling.unarmed.Goals as goal

pub returns-in-Some-Cut-clause-entries : goal.returns-in-Some-Cut-clause-entries
returns-in-Some-Cut-clause-entries g c = c.disarmed.ensures.entries

pub returns-in-Some-Cut-clause-works : goal.returns-in-Some-Cut-clause-works
returns-in-Some-Cut-clause-works g c = c.disarmed.ensures.works

pub returns-in-Some-Cut-clause-images : goal.returns-in-Some-Cut-clause-images
returns-in-Some-Cut-clause-images g c = c.disarmed.ensures.images

pub returns-in-Some-Cut-clause-counts : goal.returns-in-Some-Cut-clause-counts
returns-in-Some-Cut-clause-counts g c = λ calls stop is unarmed. c.disarmed.ensures.counts calls stop is

pub returns-in-Some-Fail-clause-entries : goal.returns-in-Some-Fail-clause-entries
returns-in-Some-Fail-clause-entries g c = c.disarmed-in-Some-Fail.ensures.entries

pub returns-in-Some-Fail-clause-works : goal.returns-in-Some-Fail-clause-works
returns-in-Some-Fail-clause-works g c = c.disarmed-in-Some-Fail.ensures.works

pub returns-in-Some-Fail-clause-images : goal.returns-in-Some-Fail-clause-images
returns-in-Some-Fail-clause-images g c = c.disarmed-in-Some-Fail.ensures.images

pub returns-in-Some-Fail-clause-counts : goal.returns-in-Some-Fail-clause-counts
returns-in-Some-Fail-clause-counts g c = λ calls stop is unarmed. c.disarmed-in-Some-Fail.ensures.counts calls stop is

still : (prefix : Option Prefix) (told : Option Counts) (calls : ℕ) (stop : Option ℕ) → told ≡ Some (record { calls = calls; stop = stop }) → (arms prefix ≡ false → stop ≡ None) → arms prefix ≡ false → told ≡ Some (record { calls = calls; stop = None })
still prefix told calls stop is unarmed not_armed = is ∙ ap (λ (s : Option ℕ). let x : Counts = record { calls = calls; stop = s } in Some x) (unarmed not_armed)

pub returns-in-Some-CutAfter-clause-counts : goal.returns-in-Some-CutAfter-clause-counts
returns-in-Some-CutAfter-clause-counts g c = λ calls stop is unarmed.
    let prefix_is : c.args.prefix ≡ Some CutAfter = grind (arith, c.in-Some-CutAfter.is, c.in-Some-CutAfter.field-0-is) in
    still c.args.prefix (told_of (g.T.OverDisk.disk c.args.end)) calls stop is unarmed (ap arms prefix_is)

pub returns-in-None-clause-counts : goal.returns-in-None-clause-counts
returns-in-None-clause-counts g c = λ calls stop is unarmed. still c.args.prefix (told_of (g.T.OverDisk.disk c.args.end)) calls stop is unarmed (ap arms c.in-None.is)
