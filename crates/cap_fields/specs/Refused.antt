-- Why a message was rejected, as a structure, and the ranges of numbers.
use Rattle.std.specs.Prelude.{ℕ, ◌^◌, Bool, true, ◌&&◌, nat_lt, Option, Some, None, option_map}
use Rattle.cap_base.specs.declared.codes.Reason.{Reason}
use Rattle.cap_leaf.specs.declared.header.Refused.{Refused}
use Rattle.cap_leaf.specs.Trees.{Data, value, branch, none, child}
use Rattle.cap_fields.specs.Fields.{maybe_num, num_in}
use Rattle.cap_fields.specs.Codes.{reason_code, reason_in}

-- so many digits write it
abbrev pub in_digits : ℕ → ℕ → Bool
in_digits most n = nat_lt n (10 ^ most)

abbrev pub in_digits_if : ℕ → Option ℕ → Bool
in_digits_if most None = true
in_digits_if most (Some n) = in_digits most n

-- its numbers have at most ten digits
abbrev pub is_refused : Refused → Bool
is_refused r = in_digits_if 10 r.expected && in_digits_if 10 r.place

abbrev pub refused_tree : Refused → Data
refused_tree r = branch (child 0 (value (reason_code r.reason)) (maybe_num 1 r.expected (maybe_num 2 r.place none)))

abbrev pub refused_with : Data → Reason → Refused
refused_with d reason = record { reason = reason; expected = num_in d 1; place = num_in d 2 }

-- what a structure says of it
abbrev pub refused_in : Data → Option Refused
refused_in d = option_map (refused_with d) (reason_in d 0)
