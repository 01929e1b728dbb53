use Rattle.std.proofs.Common.{◌≡◌, ◌<◌, ◌≤◌, ◌+◌, ◌++◌, ◌∷◌, [], length, take, refl, sym, ap, ◌∙◌, arith, rules, length-append}
use Rattle.std.proofs.lemmas.List.{length-take}
use Rattle.cap_text.specs.Bytes.{on_bytes, ended, piece_of}
use Rattle.cap_text.specs.SeenDocs.{doc_of}
use Rattle.cap_text.specs.SeenKnown.{known_of}
use Rattle.cap_text.proofs.Runs.{reading_is, read_held, read_ended}
use Rattle.cap_text.proofs.reading.Reading.read.Goals as goal

pub returns-then-before-near-clause-read : goal.returns-then-before-near-clause-read
returns-then-before-near-clause-read c = λ fits.
    let s = c.args.self.now in
    let held = s.held.bytes.items in
    let near = take c.min.result c.args.bytes.now in
    let at = c.end_in-before.result in
    let size : c.len-room.result ≡ length held = search rules in
    let room : length held + length near ≤ 128 = omega (arith, s.held.room.0, size, c.min.ensures, length-take c.min.result c.args.bytes.now) in
    reading_is _ _ _ _ _ _ _ _ _ _ refl refl c.hold.ensures.bytes c.hold.ensures.stuck c.hold.ensures.ends
    ∙ read_held (doc_of s.doc) (known_of s.known) held c.args.bytes.now near c.min.result at refl c.end_in-before.ensures.count c.end_in-before.ensures.within
    (s.held.room.1 c.requires.free) room c.requires.begun
    ∙ ap (λ r. on_bytes r (take at c.args.bytes.now)) (reading_is _ _ _ _ _ _ _ _ _ _ refl refl refl (sym c.requires.free) (sym (s.held.room.2 c.requires.free)))

pub returns-clause-read : goal.returns-clause-read
returns-clause-read c = λ fits.
    let s = c.args.self.now in
    let held = s.held.bytes.items in
    let near = take c.min.result c.args.bytes.now in
    let at = c.end_in-before.result in
    let size : c.len-room.result ≡ length held = search rules in
    let more : at < length near = omega (arith, c.end_in-before.ensures.within, c.if-before-near.false) in
    let room : length held + length near ≤ 128 = omega (arith, s.held.room.0, size, c.min.ensures, length-take c.min.result c.args.bytes.now) in
    c.in_ok-end.ensures.read (omega (arith, fits, more, ap length c.hold.ensures.bytes, length-append held (take at near), length-take at near, length-take c.min.result c.args.bytes.now))
    ∙ ap (λ h. ended (doc_of s.doc) (known_of s.known) (h ++ 62 ∷ []) (piece_of (doc_of s.doc) (h ++ 62 ∷ []))) c.hold.ensures.bytes
    ∙ read_ended (doc_of s.doc) (known_of s.known) held c.args.bytes.now near c.min.result at refl c.end_in-before.ensures.count more
    (s.held.room.1 c.requires.free) room c.requires.begun
    ∙ ap (λ r. on_bytes r (take (at + 1) c.args.bytes.now)) (reading_is _ _ _ _ _ _ _ _ _ _ refl refl refl (sym c.requires.free) (sym (s.held.room.2 c.requires.free)))
