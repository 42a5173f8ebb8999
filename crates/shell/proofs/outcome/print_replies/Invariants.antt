use Rattle.std.proofs.Common.{take}
use Rattle.std.specs.List.{flat_map}
use Rattle.reply_text.specs.Printed.{Prints}
use Rattle.reply_text.specs.Text.{reply_text}
use Rattle.shell.proofs.outcome.print_replies.Given as goal

abbrev pub invariant-loop-reply : goal.invariant-loop-reply
invariant-loop-reply g l = Prints g.K.Sink l.fn.printer l.fn.sink (flat_map reply_text (take l.reply-index l.replies)) l.printer l.sink
