use Rattle.std.proofs.Common.{◌≡◌, ◌-◌, ◌+◌, ℕ, List, length, take, drop, ◌∙◌, ap, arith, length-drop}
use Rattle.byteorder.specs.Endian.{big_number}
use Rattle.cap_journal.specs.File.{group_length, fits_group}
use Rattle.cap_journal.proofs.Sizes.{number_of, fits_all, too_low, too_high, too_long, is_true}
use Rattle.cap_pages.proofs.paged_open.read_whole.Goals as goal
use Rattle.cap_pages.proofs.paged_open.read_whole.Goals.{then-size-lt1-via-then-size-lt1, then-size-lt1-via-else-size-lt1+then-size-gt-MOST, then-size-lt1-via-else-size-lt1+else-size-gt-MOST+then-size-len}

pub returns-then-size-lt1-clause-none : goal.returns-then-size-lt1-clause-none
returns-then-size-lt1-clause-none g c told none =
    let shown = (g.D.Disk.contents c.args.disk.now).shown in
    let rest : List ℕ = drop c.args.at shown in
    let is : c.read_u32-size.result ≡ group_length rest = number_of rest c.in_ok-head.head.items c.read_u32-size.result (c.in_ok-head.ensures.bytes told) (c.read_u32-size.ensures ∙ ap (λ (l : List ℕ). big_number 4 l) c.as_slice.ensures.value) in
    let long : length rest ≡ c.args.len - c.args.at = length-drop c.args.at shown ∙ omega (arith, c.requires.long told) in
    elim c.then-size-lt1.branch [
      | then-size-lt1-via-then-size-lt1 w ↦ too_low rest (omega (arith, is, w.if-size-lt1.true))
      | then-size-lt1-via-else-size-lt1+then-size-gt-MOST w ↦ too_high rest (omega (arith, is, w.if-size-gt-MOST.true))
      | then-size-lt1-via-else-size-lt1+else-size-gt-MOST+then-size-len w ↦ too_long rest (omega (arith, is, w.if-size-len.true, long))
    ]

pub returns-clause-some : goal.returns-clause-some
returns-clause-some g c told =
    let shown = (g.D.Disk.contents c.args.disk.now).shown in
    let rest : List ℕ = drop c.args.at shown in
    let is : c.read_u32-size.result ≡ group_length rest = number_of rest c.in_ok-head.head.items c.read_u32-size.result (c.in_ok-head.ensures.bytes told) (c.read_u32-size.ensures ∙ ap (λ (l : List ℕ). big_number 4 l) c.as_slice.ensures.value) in
    let long : length rest ≡ c.args.len - c.args.at = length-drop c.args.at shown ∙ omega (arith, c.requires.long told) in
    let still : (g.D.Disk.contents c.read_range.new.disk).shown ≡ shown = ap (λ k. k.shown) (c.in_ok-head.ensures.reads.contents_still told) in
    (is_true (fits_group rest) (fits_all rest (omega (arith, long)) (omega (arith, is)) (omega (arith, is)) (omega (arith, is, long))), c.in_ok-bytes.ensures.bytes (c.in_ok-head.ensures.reads.tells_still ∙ told) ∙ ap (λ (k : ℕ). take (5 + k) (drop c.args.at (g.D.Disk.contents c.read_range.new.disk).shown)) is ∙ ap (λ (l : List ℕ). take (5 + group_length rest) (drop c.args.at l)) still)
