use Rattle.std.proofs.Common.{take}
use Rattle.std.specs.List.{flat_map}
use Rattle.reply_text.specs.Text.{more_text}
use Rattle.reply_text.specs.Printed.{Prints}
use Rattle.reply_text.proofs.rows.print_more.Given as goal

abbrev pub invariant-loop-value : goal.invariant-loop-value
invariant-loop-value g l =
    Prints g.K.Sink l.fn.printer l.fn.sink (flat_map more_text (take l.value-index l.values)) l.printer l.sink
