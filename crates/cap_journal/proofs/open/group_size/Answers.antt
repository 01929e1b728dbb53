use Rattle.std.proofs.Common.{◌≡◌, ◌-◌, ℕ, List, length, drop, arith, length-drop}
use Rattle.cap_journal.specs.File.{group_length, fits_group}
use Rattle.cap_journal.proofs.Sizes.{number_is, fits_all, too_low, too_high, too_long, is_true}
use Rattle.cap_journal.proofs.open.group_size.Goals as goal
use Rattle.cap_journal.proofs.open.group_size.Goals.{then-size-lt1-via-then-size-lt1, then-size-lt1-via-else-size-lt1+then-size-gt-MOST, then-size-lt1-via-else-size-lt1+else-size-gt-MOST+then-size-rest}

pub returns-then-size-lt1-clause-none : goal.returns-then-size-lt1-clause-none
returns-then-size-lt1-clause-none c =
    let rest : List ℕ = drop c.args.at c.args.image.now in
    let is : c.read_u32-size.result ≡ group_length rest = number_is rest (length c.args.image.now - c.args.at) c.read_u32-size.result (omega (arith, length-drop c.args.at c.args.image.now)) c.read_u32-size.ensures in
    elim c.then-size-lt1.branch [
      | then-size-lt1-via-then-size-lt1 w ↦ too_low rest (omega (arith, is, w.if-size-lt1.true))
      | then-size-lt1-via-else-size-lt1+then-size-gt-MOST w ↦ too_high rest (omega (arith, is, w.if-size-gt-MOST.true))
      | then-size-lt1-via-else-size-lt1+else-size-gt-MOST+then-size-rest w ↦ too_long rest (omega (arith, is, w.if-size-rest.true, length-drop c.args.at c.args.image.now))
    ]

pub returns-clause-some : goal.returns-clause-some
returns-clause-some c =
    let rest : List ℕ = drop c.args.at c.args.image.now in
    let is : c.read_u32-size.result ≡ group_length rest = number_is rest (length c.args.image.now - c.args.at) c.read_u32-size.result (omega (arith, length-drop c.args.at c.args.image.now)) c.read_u32-size.ensures in
    let size : length rest ≡ length c.args.image.now - c.args.at = length-drop c.args.at c.args.image.now in
    (is, is_true (fits_group rest) (fits_all rest (omega (arith, size)) (omega (arith, is)) (omega (arith, is)) (omega (arith, is, size))), omega (arith, size))
