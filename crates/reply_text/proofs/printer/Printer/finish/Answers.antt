use Rattle.std.proofs.Common.{sym, ◌∙◌}
use Rattle.std.proofs.lemmas.List.{append-nil}
use Rattle.reply_text.proofs.printer.Printer.finish.Goals as goal

pub returns-then-failed : goal.returns-then-failed
returns-then-failed g c start before text is =
    let flushed = c.flush.ensures.printed start before text is in
    record {
      front = flushed.front;
      rest = flushed.rest;
      text_is = sym (append-nil text) ∙ flushed.text_is;
      took = flushed.took;
      whole = tt;
      still = tt;
      failed = flushed.cause c.if-failed.true;
    }

pub returns-else-failed : goal.returns-else-failed
returns-else-failed g c start before text is =
    let flushed = c.flush.ensures.printed start before text is in
    record {
      front = flushed.front;
      rest = flushed.rest;
      text_is = sym (append-nil text) ∙ flushed.text_is;
      took = flushed.took;
      whole = flushed.waits c.if-failed.false ∙ c.flush.ensures.empty;
      still = flushed.still c.if-failed.false;
      failed = tt;
    }
