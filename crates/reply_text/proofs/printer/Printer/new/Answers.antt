use Rattle.std.proofs.Common.{refl}
use Rattle.reply_text.proofs.Printing.{begins}
use Rattle.reply_text.proofs.printer.Printer.new.Goals as goal

pub returns : goal.returns
returns c taken faults = begins _ taken faults refl c.new.ensures
