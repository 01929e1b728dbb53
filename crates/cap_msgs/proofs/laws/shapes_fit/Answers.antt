use Rattle.cap_msgs.proofs.HeaderShapes.{header_shape}
use Rattle.cap_msgs.proofs.Whole.{body_shape, shape_fits, header_fits_back, message_shape, has_message_fits}
use Rattle.cap_msgs.proofs.laws.shapes_fit.Goals as goal

pub returns-clause-body : goal.returns-clause-body
returns-clause-body c = λ k d. (shape_fits k d, body_shape k d)

pub returns-clause-header : goal.returns-clause-header
returns-clause-header c = λ k d. (header_fits_back k d, header_shape k d)

pub returns-clause-message : goal.returns-clause-message
returns-clause-message c = λ k d. (has_message_fits k d, message_shape k d)
