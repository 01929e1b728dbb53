use Rattle.cap_text.specs.Bytes.{kinds}
use Rattle.cap_text.proofs.ending.document_in.Goals as goal

pub returns : goal.returns
unfolding kinds
returns c = c.document_among.ensures
