use Rattle.std.proofs.Common.{take}
use Rattle.sql_lex.specs.Spelling.{doubled}
use Rattle.reply_text.specs.Printed.{Prints}
use Rattle.reply_text.proofs.rows.print_doubled.Given as goal

abbrev pub invariant-loop-byte : goal.invariant-loop-byte
invariant-loop-byte g l =
    Prints g.K.Sink l.fn.printer l.fn.sink (doubled (take l.byte-index l.bytes)) l.printer l.sink
