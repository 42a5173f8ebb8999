use Rattle.std.proofs.Common.{take}
use Rattle.reply_text.specs.Printed.{Prints}
use Rattle.reply_text.proofs.printer.Printer.print.Given as goal

abbrev pub invariant-loop-byte : goal.invariant-loop-byte
invariant-loop-byte g l =
    Prints g.K.Sink l.fn.self l.fn.sink (take l.byte-index l.byte-items) l.self l.sink
