use Rattle.std.proofs.Common.{◌≡◌, ℕ, List, length, replicate, refl, sym, ◌∙◌, ap, arith}
use Rattle.std.proofs.lemmas.List.{take_all, length-replicate}
use Rattle.cap_disk.specs.Disk.{Contents, overwrite}
use Rattle.cap_disk.specs.History.{start, after, length_overwrite}
use Rattle.cap_disk.proofs.Pushing.{after_to, elapses_to, kept_to, lens_to}
use Rattle.cap_disk.specs.declared.recorded.Call.{Call}
use Rattle.cap_disk.specs.declared.recorded.Call.TheVariants.{Write}
use Rattle.cap_disk.proofs.recorded.Recorded.fill.Goals as goal

pub invariant_of-self-clause-agrees : goal.invariant_of-self-clause-agrees
invariant_of-self-clause-agrees c =
    let s = c.args.self.now in
    let written = replicate c.args.len c.args.byte in
    let size : length written ≡ c.args.len = length-replicate c.args.len c.args.byte in
    let call : Call = Write c.args.place c.args.len in
    let lens_are = lens_to s.log.items c.push_reserved.new.self.items call c.push_reserved.ensures.items in
    let longer = length_overwrite s.shown.items c.args.place written in
    c.fill_over.ensures.items ∙ ap (λ (l : List ℕ). overwrite l c.args.place written) s.agrees
    ∙ sym (ap (λ (k : Contents). k.shown) (after_to s.first.items s.first.items s.log.items c.push_reserved.new.self.items s.bytes.items c.append_byte.new.out.items call written refl c.push_reserved.ensures.items c.append_byte.ensures.items s.kept_bytes)
    ∙ ap (λ (l : List ℕ). overwrite (after (start s.first.items) s.log.items s.bytes.items).shown c.args.place l) (take_all c.args.len written (omega arith)))

pub invariant_of-self-clause-kept_bytes : goal.invariant_of-self-clause-kept_bytes
invariant_of-self-clause-kept_bytes c =
    let s = c.args.self.now in
    let written = replicate c.args.len c.args.byte in
    let size : length written ≡ c.args.len = length-replicate c.args.len c.args.byte in
    let call : Call = Write c.args.place c.args.len in
    let lens_are = lens_to s.log.items c.push_reserved.new.self.items call c.push_reserved.ensures.items in
    let longer = length_overwrite s.shown.items c.args.place written in
    kept_to s.log.items c.push_reserved.new.self.items s.bytes.items c.append_byte.new.out.items call written c.push_reserved.ensures.items c.append_byte.ensures.items (sym size) s.kept_bytes

pub invariant_of-self-clause-all_written : goal.invariant_of-self-clause-all_written
invariant_of-self-clause-all_written c =
    let s = c.args.self.now in
    let written = replicate c.args.len c.args.byte in
    let size : length written ≡ c.args.len = length-replicate c.args.len c.args.byte in
    let call : Call = Write c.args.place c.args.len in
    let lens_are = lens_to s.log.items c.push_reserved.new.self.items call c.push_reserved.ensures.items in
    let longer = length_overwrite s.shown.items c.args.place written in
    omega (arith, lens_are, s.all_written)

pub invariant_of-self-clause-short : goal.invariant_of-self-clause-short
invariant_of-self-clause-short c =
    let s = c.args.self.now in
    let written = replicate c.args.len c.args.byte in
    let size : length written ≡ c.args.len = length-replicate c.args.len c.args.byte in
    let call : Call = Write c.args.place c.args.len in
    let lens_are = lens_to s.log.items c.push_reserved.new.self.items call c.push_reserved.ensures.items in
    let longer = length_overwrite s.shown.items c.args.place written in
    omega (arith, ap length c.fill_over.ensures.items, longer, s.short)

pub returns-clause-contents : goal.returns-clause-contents
returns-clause-contents c =
    let s = c.args.self.now in
    let written = replicate c.args.len c.args.byte in
    let size : length written ≡ c.args.len = length-replicate c.args.len c.args.byte in
    after_to s.first.items s.first.items s.log.items c.push_reserved.new.self.items s.bytes.items c.append_byte.new.out.items (Write c.args.place c.args.len) written refl c.push_reserved.ensures.items c.append_byte.ensures.items s.kept_bytes

pub returns-clause-time : goal.returns-clause-time
returns-clause-time c =
    let s = c.args.self.now in
    let written = replicate c.args.len c.args.byte in
    let size : length written ≡ c.args.len = length-replicate c.args.len c.args.byte in
    elapses_to s.first.items s.first.items s.log.items c.push_reserved.new.self.items s.bytes.items c.append_byte.new.out.items (Write c.args.place c.args.len) written refl c.push_reserved.ensures.items c.append_byte.ensures.items s.kept_bytes
