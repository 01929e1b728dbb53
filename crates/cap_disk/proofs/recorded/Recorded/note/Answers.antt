use Rattle.std.proofs.Common.{[], refl, sym, ◌∙◌, ap, arith}
use Rattle.std.proofs.lemmas.List.{append-nil}
use Rattle.cap_disk.specs.Disk.{Contents}
use Rattle.cap_disk.specs.History.{start, after}
use Rattle.cap_disk.proofs.Pushing.{after_to, elapses_to, kept_to, lens_to, same_shown, takes_none}
use Rattle.cap_disk.proofs.recorded.Recorded.note.Goals as goal

pub invariant_of-self : goal.invariant_of-self
invariant_of-self c =
    let s = c.args.self.now in
    let none = sym (append-nil s.bytes.items) in
    let lens_are = lens_to s.log.items c.push_reserved.new.self.items c.args.call c.push_reserved.ensures.items in
    record {
      agrees = s.agrees ∙ sym (ap (λ (k : Contents). k.shown) (after_to s.first.items s.first.items s.log.items c.push_reserved.new.self.items s.bytes.items s.bytes.items c.args.call [] refl c.push_reserved.ensures.items none s.kept_bytes)
          ∙ same_shown (after (start s.first.items) s.log.items s.bytes.items) c.args.call c.requires.quiet);
      kept_bytes = kept_to s.log.items c.push_reserved.new.self.items s.bytes.items s.bytes.items c.args.call [] c.push_reserved.ensures.items none (takes_none c.args.call c.requires.quiet) s.kept_bytes;
      all_written = omega (arith, lens_are, s.all_written, c.requires.len);
      short = omega (arith, s.short);
      log_room = omega arith;
      bytes_room = omega arith;
      shown_room = omega arith;
      first_room = omega arith;
    }

pub returns-clause-contents : goal.returns-clause-contents
returns-clause-contents c =
    let s = c.args.self.now in
    after_to s.first.items s.first.items s.log.items c.push_reserved.new.self.items s.bytes.items s.bytes.items c.args.call [] refl c.push_reserved.ensures.items (sym (append-nil s.bytes.items)) s.kept_bytes

pub returns-clause-time : goal.returns-clause-time
returns-clause-time c =
    let s = c.args.self.now in
    elapses_to s.first.items s.first.items s.log.items c.push_reserved.new.self.items s.bytes.items s.bytes.items c.args.call [] refl c.push_reserved.ensures.items (sym (append-nil s.bytes.items)) s.kept_bytes
