use Rattle.std.proofs.Common.{take}
use Rattle.reply_text.specs.Text.{numbers_text}
use Rattle.reply_text.specs.Printed.{Prints}
use Rattle.reply_text.proofs.refusals.print_key.Given as goal

abbrev pub invariant-loop-number : goal.invariant-loop-number
invariant-loop-number g l =
    Prints g.K.Sink l.fn.printer l.fn.sink (numbers_text (take l.number-index l.key)) l.printer l.sink
