use Rattle.std.proofs.Common.{take}
use Rattle.std.specs.List.{flat_map}
use Rattle.reply_text.specs.Text.{row_text}
use Rattle.reply_text.specs.Printed.{Prints}
use Rattle.reply_text.proofs.rows.print_rows.Given as goal

abbrev pub invariant-loop-row : goal.invariant-loop-row
invariant-loop-row g l =
    Prints g.K.Sink l.fn.printer l.fn.sink (flat_map row_text (take l.row-index l.row-items)) l.printer l.sink
