use Rattle.std.proofs.Common.{take}
use Rattle.std.specs.List.{flat_map}
use Rattle.reply_text.specs.Printed.{Prints}
use Rattle.shell.specs.Text.{section_text}
use Rattle.shell.proofs.outcome.print_sections.Given as goal

abbrev pub invariant-loop-run : goal.invariant-loop-run
invariant-loop-run g l = Prints g.K.Sink l.fn.printer l.fn.sink (flat_map section_text (take l.run-index l.runs)) l.printer l.sink
