use Rattle.std.proofs.Common.{rules, sym, ◌∙◌}
use Rattle.row_types.proofs.PageLaws.{page_found, page_step, page_behind}
use Rattle.row_types.proofs.page.page_fault.Goals as goal

pub returns-in-Some : goal.returns-in-Some
returns-in-Some c =
    page_found c.args.columns.now c.slot_len-len.result c.loop-k.k c.in-Some.place c.args.page.now
    c.slot_len-len.ensures c.loop-k-test.true c.loop-k.invariant (sym c.slot_fault.ensures ∙ c.in-Some.is)

pub loop-k-preserved : goal.loop-k-preserved
loop-k-preserved c =
    page_step c.args.columns.now c.slot_len-len.result c.loop-k.k c.args.page.now c.slot_len-len.ensures
    c.loop-k-test.true c.loop-k.invariant (sym c.in_default.ensures)

pub returns-in-Some-first_not_zero : goal.returns-in-Some-first_not_zero
returns-in-Some-first_not_zero c =
    page_behind c.args.columns.now c.slot_len-len.result c.loop-k.k c.args.page.now _ c.slot_len-len.ensures
    (search rules) c.loop-k.invariant (sym c.first_not_zero.ensures ∙ c.in-Some-first_not_zero.is)

pub returns-in-None : goal.returns-in-None
returns-in-None c =
    page_behind c.args.columns.now c.slot_len-len.result c.loop-k.k c.args.page.now _ c.slot_len-len.ensures
    (search rules) c.loop-k.invariant (sym c.first_not_zero.ensures ∙ c.in-None.is)
