-- The body of the message that carries a manager's reply.
use Rattle.std.specs.Prelude.{Option, Some, None}
use Rattle.cap_mgmt_msgs.specs.declared.body.MgmtBody.{MgmtBody}
use Rattle.cap_mgmt_msgs.specs.declared.body.MgmtBody.TheVariants.{Plan as Plan_body, Part as Part_body}
use Rattle.cap_manager.specs.declared.reply.ManagerReply.{ManagerReply}
use Rattle.cap_manager.specs.declared.reply.ManagerReply.TheVariants.{Plan, Part, Nothing}

-- None where there is nothing
abbrev pub body_of : ManagerReply → Option MgmtBody
body_of (Plan actions) = Some (Plan_body actions)
body_of (Part part) = Some (Part_body part)
body_of Nothing = None
