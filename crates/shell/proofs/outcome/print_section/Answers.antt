use Rattle.std.proofs.Common.{◌≡◌, ℕ, List, ◌++◌, append_assoc, refl, sym, ◌∙◌, ap, subst}
use Rattle.std.specs.List.{flat_map}
use Rattle.row_types.specs.declared.block.Block.{Block}
use Rattle.plain_model.specs.declared.reply.Reply.{Reply}
use Rattle.reply_text.specs.Printed.{IsPrinted}
use Rattle.reply_text.specs.Text.{header_line, reply_text}
use Rattle.section_runs.specs.Sections.{left_in}
use Rattle.shell.specs.Text.{halt_line}
use Rattle.shell.proofs.outcome.print_section.Goals as goal

pub returns : goal.returns
returns g c start before text is =
    let run = c.args.run.now in
    let k = g.K.Sink in
    let head = header_line run.section.number in
    let leads = flat_map reply_text run.section.leads in
    let said = flat_map (flat_map reply_text) run.said in
    let left = flat_map (λ _. halt_line run.halt) (left_in run) in
    let first = c.header.ensures start before text is in
    let second = c.print_replies.ensures start before (text ++ head) first in
    let second' = subst (λ (l : List Reply). IsPrinted start before ((text ++ head) ++ flat_map reply_text l) c.print_replies.new.printer (k.taken c.print_replies.new.sink) (k.faults c.print_replies.new.sink)) c.as_slice.ensures second in
    let third = c.print_blocks.ensures start before ((text ++ head) ++ leads) second' in
    let third' = subst (λ (l : List (List Reply)). IsPrinted start before (((text ++ head) ++ leads) ++ flat_map (flat_map reply_text) l) c.print_blocks.new.printer (k.taken c.print_blocks.new.sink) (k.faults c.print_blocks.new.sink)) c.as_slice-2.ensures third in
    let all = c.print_left.ensures start before (((text ++ head) ++ leads) ++ said) third' in
    let all' = subst (λ (l : List Block). IsPrinted start before ((((text ++ head) ++ leads) ++ said) ++ flat_map (λ _. halt_line run.halt) l) c.print_left.new.printer (k.taken c.print_left.new.sink) (k.faults c.print_left.new.sink)) c.left.ensures all in
    let joined : (((text ++ head) ++ leads) ++ said) ++ left ≡ text ++ (head ++ (leads ++ (said ++ left))) =
    append_assoc ((text ++ head) ++ leads) said left ∙ append_assoc (text ++ head) leads (said ++ left) ∙ append_assoc text head (leads ++ (said ++ left)) in
    subst (λ (t : List ℕ). IsPrinted start before t c.print_left.new.printer (k.taken c.print_left.new.sink) (k.faults c.print_left.new.sink)) joined all'
