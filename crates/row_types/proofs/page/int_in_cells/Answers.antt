use Rattle.std.proofs.Common.{rules, FitsSigned, ◌∙◌, w64, arith}
use Rattle.std.proofs.lemmas.Int.{to_z-of_z}
use Rattle.row_types.proofs.Cells.{widths_more_le}
use Rattle.row_types.proofs.CheckedSlots.{cell_here}
use Rattle.row_types.proofs.page.int_in_cells.Goals as goal

pub slice_bounds-int_in_cell-end : goal.slice_bounds-int_in_cell-end
slice_bounds-int_in_cell-end c =
    let most =
    widths_more_le c.args.columns.now c.loop-i.i c.index-columns-i.result c.loop-i-test.true c.index-columns-i.is in
    omega arith

pub returns-then-i-place : goal.returns-then-i-place
returns-then-i-place c =
    let here =
    cell_here c.loop-i.at c.width.result c.loop-i.i c.args.place c.args.columns.now c.index-columns-i.result c.args.bytes.now c.int_in_cell.result
    c.loop-i-test.true c.index-columns-i.is c.width.ensures.value c.if-i-place.true c.int_in_cell.ensures c.loop-i.invariant.left in
    let fits : FitsSigned w64 c.int_in_cell.result = search (rules, c.int_in_cell.type_inv) in
    to_z-of_z w64 c.int_in_cell.result fits ∙ here
