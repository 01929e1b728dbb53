-- What a status report gets: a part of the newest parameter set, or the plan.
use Rattle.std.specs.Prelude.{ℕ, ◌+◌, ◌-◌, ◌*◌, ◌/◌, ◌&&◌, nat_le, nat_lt, ◌==◌, if◌then◌else◌, List, [], ◌∷◌, length, take, drop, Option, Some, None, slice_get}
use Rattle.cap_base.specs.declared.parameters.Row.{Row}
use Rattle.cap_base.specs.declared.parameters.ConfigPart.{ConfigPart}
use Rattle.cap_base.specs.declared.codes.DataSet.{DataSet}
use Rattle.cap_base.specs.declared.codes.DataSet.TheVariants.{Aqpr, Mgtp, Strp}
use Rattle.cap_base.specs.declared.codes.PlanAct.TheVariants.{Dwnl, Upld}
use Rattle.cap_leaf.specs.Date.{DateParts}
use Rattle.cap_mgmt_msgs.specs.declared.actions.Action.{Action}
use Rattle.cap_mgmt_msgs.specs.declared.body.MgmtBody.{MgmtBody}
use Rattle.cap_mgmt_msgs.specs.declared.body.MgmtBody.TheVariants.{Plan, Part}

-- part i of a set is its rows 16 (i - 1) + 1 to 16 i, as far as they exist
abbrev pub part_rows : List Row → ℕ → List Row
part_rows rows part = take 16 (drop (16 * (part - 1)) rows)

abbrev pub parts_of : List Row → ℕ
parts_of rows = (length rows + 15) / 16

abbrev pub part_of_set : ℕ → List Row → ℕ → ConfigPart
part_of_set version rows part = record { version = version; part = part; parts = parts_of rows; rows = part_rows rows part }

-- to ask for parameters, and to ask for the plan
abbrev pub plan_of : DateParts → ℕ → List Action
plan_of start poll =
    record { act = Dwnl; set = Aqpr; start = start; minutes = poll }
    ∷ record { act = Upld; set = Strp; start = start; minutes = poll } ∷ []

-- the part that comes next: after the parts of this version that the terminal has, else the first
abbrev pub next_part : (version : ℕ) → List Row → (staged parts : ℕ) → ℕ
next_part version rows staged parts = if (staged == version) && nat_lt parts (parts_of rows) then parts + 1 else 1

-- a part of the newest set, where there is one and the terminal has an older one in force
abbrev pub newest_part : (version : ℕ) → Option (List Row) → (in_force staged parts : ℕ) → Option MgmtBody
newest_part version None in_force staged parts = None
newest_part version (Some rows) in_force staged parts =
    if nat_le version in_force then None
    else Some (Part (part_of_set version rows (next_part version rows staged parts)))

-- what a status report gets; None where there is nothing for it
abbrev pub answer_status : List (List Row) → DateParts → ℕ → DataSet → (in_force staged parts : ℕ) → Option MgmtBody
answer_status sets start poll Aqpr in_force staged parts = newest_part (length sets) (slice_get sets (length sets - 1)) in_force staged parts
answer_status sets start poll Mgtp in_force staged parts = Some (Plan (plan_of start poll))
answer_status sets start poll Strp in_force staged parts = None
