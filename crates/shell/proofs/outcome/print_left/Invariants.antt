use Rattle.std.proofs.Common.{take}
use Rattle.std.specs.List.{flat_map}
use Rattle.reply_text.specs.Printed.{Prints}
use Rattle.shell.specs.Text.{halt_line}
use Rattle.shell.proofs.outcome.print_left.Given as goal

abbrev pub invariant-loop-block : goal.invariant-loop-block
invariant-loop-block g l = Prints g.K.Sink l.fn.printer l.fn.sink (flat_map (λ _. halt_line l.halt) (take l._block-index l.left)) l.printer l.sink
