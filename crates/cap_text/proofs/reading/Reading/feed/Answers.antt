use Rattle.std.proofs.Common.{◌≡◌, ◌∙◌, ◌-◌, arith, ap, length, take, drop, List, ℕ}
use Rattle.std.proofs.lemmas.List.{length-drop}
use Rattle.cap_text.specs.Bytes.{on_bytes}
use Rattle.cap_text.specs.Seen.{reading_of}
use Rattle.cap_text.proofs.Pieced.{whole_rest}
use Rattle.cap_text.proofs.Runs.{run_more}
use Rattle.cap_text.proofs.reading.Reading.feed.Goals as goal

pub loop-at-preserved : goal.loop-at-preserved
loop-at-preserved c =
    let piece = c.args.piece.now in
    let at = c.loop-at.at in
    let n = c.in_ok-at.field-0 in
    let whole = whole_rest at piece in
    let size : length (take (length piece - at) (drop at piece)) ≡ length piece - at = ap length whole ∙ length-drop at piece in
    record {
      within = omega (arith, c.in_ok-at.ensures.within, size, c.loop-at-test.true);
      read = λ fits.
          c.in_ok-at.ensures.read (omega (arith, fits, c.loop-at.invariant.few, size, c.loop-at-test.true))
          ∙ ap (λ (l : List ℕ). on_bytes (reading_of c.loop-at.self) (take n l)) whole
          ∙ ap (λ r. on_bytes r (take n (drop at piece))) (c.loop-at.invariant.read fits)
          ∙ run_more (reading_of c.args.self.now) piece at n;
      few = omega (arith, c.in_ok-at.ensures.few, c.loop-at.invariant.few);
    }
