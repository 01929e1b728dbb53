use Rattle.std.proofs.Common.{[], ◌∷◌, string_bytes, codes}
use Rattle.std.specs.Fmt.{decimal}
use Rattle.cap_drive.proofs.Texts.{text_as, regroup}
use Rattle.cap_drive.proofs.line.line_text.Goals as goal

pub returns : goal.returns
returns c = text_as string_bytes c.format.result _ _ (regroup (codes "connection ") (decimal c.args.number) (codes " frames ") (decimal c.args.replied) c.args.ending.now (10 ∷ [])) c.format.ensures.ok
