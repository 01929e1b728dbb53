use Rattle.std.proofs.Common.{◌≡◌, ℕ, List, length, Err, arith}
use Rattle.std.proofs.lemmas.Bool.Decides.{nat_tests}
use Rattle.cap_msgs.specs.Received.{Received}
use Rattle.cap_schedule.specs.declared.schedule.ScheduleFault.TheVariants.{Line}
use Rattle.cap_schedule.specs.Reader.{IsReader}
use Rattle.cap_schedule.proofs.Reading.{stops, sound_if, if_matching, if_in_range, if_nobodys}
use Rattle.cap_schedule.proofs.reader.read.Goals as goal

pub returns-in-Err-clause-line : goal.returns-in-Err-clause-line
returns-in-Err-clause-line c = λ k e reads is.
    let failed : c.read_line.result ≡ Err (Line k) = cc (c.in-Err.is, e) in
    stops reads c.args.text.now c.lines.rest.now c.first_line.result.0.now c.first_line.result.1.now c.lines.number k c.lines.draft
    c.first_line.ensures.lines (c.lines.invariant.reading reads is) (c.read_line.ensures.line k failed reads is)

pub returns-clause-matching : goal.returns-clause-matching
returns-clause-matching c =
    let reads : List ℕ → Received = λ bytes. (c.reading_is_exact.ensures.some bytes).0 in
    let is : IsReader reads = λ bytes. (c.reading_is_exact.ensures.some bytes).1 in
    let n : length c.lines.rest.now ≡ 0 = grind (arith, nat_tests) in
    if_matching reads c.whole.result (sound_if reads c.args.text.now c.lines.rest.now c.lines.number c.lines.draft c.whole.result n (c.lines.invariant.reading reads is) c.whole.ensures.ok)

pub returns-clause-range : goal.returns-clause-range
returns-clause-range c =
    let reads : List ℕ → Received = λ bytes. (c.reading_is_exact.ensures.some bytes).0 in
    let is : IsReader reads = λ bytes. (c.reading_is_exact.ensures.some bytes).1 in
    let n : length c.lines.rest.now ≡ 0 = grind (arith, nat_tests) in
    if_in_range reads c.whole.result (sound_if reads c.args.text.now c.lines.rest.now c.lines.number c.lines.draft c.whole.result n (c.lines.invariant.reading reads is) c.whole.ensures.ok)

pub returns-clause-noise : goal.returns-clause-noise
returns-clause-noise c = λ reads is.
    let n : length c.lines.rest.now ≡ 0 = grind (arith, nat_tests) in
    if_nobodys reads c.whole.result (sound_if reads c.args.text.now c.lines.rest.now c.lines.number c.lines.draft c.whole.result n (c.lines.invariant.reading reads is) c.whole.ensures.ok)
