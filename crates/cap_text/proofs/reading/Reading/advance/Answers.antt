use Rattle.std.proofs.Common.{◌∙◌, ◌++◌, refl, sym, ap, arith, length, take, length-append}
use Rattle.std.proofs.lemmas.List.{take_all, length-take}
use Rattle.cap_text.specs.Bytes.{on_bytes}
use Rattle.cap_text.specs.Seen.{reading_of}
use Rattle.cap_text.specs.SeenDocs.{doc_of}
use Rattle.cap_text.specs.SeenKnown.{known_of}
use Rattle.cap_text.proofs.Runs.{reading_is, kept_run, skipped_run}
use Rattle.cap_text.proofs.reading.Reading.advance.Goals as goal

pub returns-then-self-clause-read : goal.returns-then-self-clause-read
returns-then-self-clause-read c = λ fits.
    let s = c.args.self.now in
    let bytes = c.args.bytes.now in
    reading_is _ _ _ _ _ _ _ _ _ _ refl refl c.keep.ensures.bytes c.keep.ensures.stuck c.keep.ensures.ends
    ∙ sym (kept_run (doc_of s.doc) (known_of s.known) bytes s.held.bytes.items s.held.ends s.held.room.0)
    ∙ ap (λ r. on_bytes r bytes) (reading_is _ _ _ _ _ _ _ _ _ _ refl refl refl (sym c.if-self.true) refl)
    ∙ ap (on_bytes (reading_of s)) (sym (take_all (length bytes) bytes (omega arith)))

pub returns-then-self-clause-few : goal.returns-then-self-clause-few
returns-then-self-clause-few c =
    let held = c.args.self.now.held.bytes.items in
    omega (arith, ap length c.keep.ensures.bytes, length-take 128 (held ++ c.args.bytes.now), length-append held c.args.bytes.now)

pub returns-clause-read : goal.returns-clause-read
returns-clause-read c = λ fits.
    let s = c.args.self.now in
    let m = c.skipped-skipped.result in
    let free = c.if-self.false in
    let none = s.held.room.2 free in
    reading_is _ _ _ _ _ _ _ _ _ _ c.pass.ensures (c.pass-2.ensures.known (omega (arith, fits, c.skipped-skipped.ensures.within))) refl free none
    ∙ skipped_run (doc_of s.doc) (known_of s.known) s.held.bytes.items c.args.bytes.now m c.skipped-skipped.ensures.count c.if-skipped-eq0.false c.skipped-skipped.ensures.within
    ∙ ap (λ r. on_bytes r (take m c.args.bytes.now)) (reading_is _ _ _ _ _ _ _ _ _ _ refl refl refl (sym free) (sym none))
