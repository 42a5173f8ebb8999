use Rattle.std.proofs.Common.{List, ℕ, refl, sym, subst}
use Rattle.std.proofs.lemmas.List.{append-nil}
use Rattle.reply_text.specs.Printed.{IsPrinted}
use Rattle.reply_text.specs.declared.printer.Printer.{Printer}
use Rattle.reply_text.proofs.Printing.{byte_printed}
use Rattle.reply_text.proofs.printer.Printer.print_byte.Goals as goal
use Rattle.reply_text.proofs.printer.Printer.print_byte.Goals.{then-is_full, else-is_full}

pub returns : goal.returns
returns g c start before text is =
    let taken = g.K.Sink.taken in
    let faults = g.K.Sink.faults in
    let p : Printer = c.if-is_full.self in
    let q : Printer = record { page = c.push.new.self; failed = c.if-is_full.self.failed } in
    let sink = c.if-is_full.sink in
    let room : IsPrinted start before text p (taken sink) (faults sink) =
    elim c.if-is_full.branch as (λ _. IsPrinted start before text p (taken sink) (faults sink)) [
      | then-is_full w ↦ subst (λ s. IsPrinted start before text p (taken s) (faults s)) (sym w.sink-is) (subst (λ (r : Printer). IsPrinted start before text r (taken w.flush.new.sink) (faults w.flush.new.sink)) (sym w.self-is) (subst (λ (t : List ℕ). IsPrinted start before t w.flush.new.self (taken w.flush.new.sink) (faults w.flush.new.sink)) (append-nil text) (w.flush.ensures.printed start before text is)))
      | else-is_full w ↦ subst (λ s. IsPrinted start before text p (taken s) (faults s)) (sym w.sink-is) (subst (λ (r : Printer). IsPrinted start before text r (taken c.args.sink.now) (faults c.args.sink.now)) (sym w.self-is) is)
    ] in
    byte_printed start before text c.args.byte p q (taken sink) (faults sink) c.push.ensures.items refl room
