use Rattle.std.proofs.Common.{[], ◌++◌}
use Rattle.shell.specs.Outcome.{view_of}
use Rattle.shell.specs.Text.{fault_line, shown_text}
use Rattle.shell.proofs.Showing.{shows}
use Rattle.shell.proofs.outcome.Outcome.print.Goals as goal

pub returns : goal.returns
returns g c =
    let old = c.args.sink.now in
    let view = view_of c.args.self.now in
    let taken = g.K.Sink.taken old in
    let faults = g.K.Sink.faults old in
    let none = c.new-printer.ensures taken faults in
    let sections = c.print_shown.ensures taken faults [] none in
    let all = c.print_fault.ensures taken faults (shown_text view.shown) sections in
    let ended = c.finish-printed.ensures taken faults (shown_text view.shown ++ fault_line view.fault) all in
    shows g.K.Sink view old c.finish-printed.new.sink c.status_after.result c.finish-printed.result ended c.status_after.ensures.six.0 c.status_after.ensures.six.1 c.status_after.ensures.other
