use Rattle.std.proofs.Common.{refl}
use Rattle.cap_terminal_lines.proofs.sends.send.Goals as goal

pub returns-in-Ok : goal.returns-in-Ok
returns-in-Ok c = (refl, record { text_is = c.in-Ok.ensures.text; spellable = c.texts_read_again.ensures.spellable c.in-Ok.text.items c.args.message.now c.in-Ok.ensures.reads })
