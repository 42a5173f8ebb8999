use Rattle.std.proofs.Common.{take}
use Rattle.std.specs.List.{flat_map}
use Rattle.reply_text.specs.Printed.{Prints}
use Rattle.reply_text.specs.Text.{reply_text}
use Rattle.shell.proofs.outcome.print_blocks.Given as goal

abbrev pub invariant-loop-replies : goal.invariant-loop-replies
invariant-loop-replies g l = Prints g.K.Sink l.fn.printer l.fn.sink (flat_map (flat_map reply_text) (take l.replies-index l.blocks)) l.printer l.sink
