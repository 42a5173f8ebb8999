use Rattle.reply_text.proofs.Printing.{still_failed, pushed}
use Rattle.reply_text.specs.declared.printer.Printer.{Printer}
use Rattle.reply_text.proofs.printer.Printer.flush.Goals as goal

pub returns-then-self-clause-printed : goal.returns-then-self-clause-printed
returns-then-self-clause-printed g c start before text is =
    still_failed start before text c.args.self.now _ (g.K.Sink.taken c.args.sink.now) (g.K.Sink.faults c.args.sink.now) c.if-self.true c.if-self.true is

pub returns-clause-printed : goal.returns-clause-printed
returns-clause-printed g c start before text is =
    let taken = g.K.Sink.taken in
    let faults = g.K.Sink.faults in
    let after : Printer = record { page = c.clear-2.new.self; failed = c.is_err-self.result } in
    pushed start before text c.push-pushed.result c.args.self.now after c.as_slice.result.now (taken c.args.sink.now) (taken c.push-pushed.new.self) (faults c.args.sink.now) (faults c.push-pushed.new.self)
    c.if-self.false c.as_slice.ensures.value c.clear-2.ensures c.is_err-self.ensures.value c.push-pushed.ensures.takes c.push-pushed.ensures.cause is
