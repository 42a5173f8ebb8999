use Rattle.std.proofs.Common.{[]}
use Rattle.reply_text.specs.Text.{reply_text}
use Rattle.reply_text.proofs.replies.reply_into.Goals as goal

pub returns : goal.returns
returns g c =
    let taken = g.K.Sink.taken c.args.sink.now in
    let faults = g.K.Sink.faults c.args.sink.now in
    c.finish.ensures taken faults (reply_text c.args.reply.now) (c.reply.ensures taken faults [] (c.new-printer.ensures taken faults))
