use Rattle.std.proofs.Common.{sym, ◌∙◌, arith}
use Rattle.row_types.proofs.Cells.{widths_more_le, widths_more, stops, goes_on}
use Rattle.row_types.proofs.slot.cells_fault.Goals as goal

pub slice_bounds-cell_fault-end : goal.slice_bounds-cell_fault-end
slice_bounds-cell_fault-end c =
    let most = widths_more_le c.args.columns.now c.loop-column.column-index c.column-item.result c.loop-column-test.true c.column-item.is in
    omega arith

pub returns-then-is_some : goal.returns-then-is_some
returns-then-is_some c =
    stops c.loop-column.at c.width.result c.loop-column.column-index c.args.columns.now c.column-item.result c.args.bytes.now c.cell_fault-fault.result
    c.loop-column-test.true c.column-item.is c.width.ensures.value c.cell_fault-fault.ensures c.loop-column.invariant.rest (sym c.is_some.ensures ∙ c.if-is_some.true)

pub loop-column-preserved : goal.loop-column-preserved
loop-column-preserved c = record {
  place =
      let more = widths_more c.args.columns.now c.loop-column.column-index c.column-item.result c.loop-column-test.true c.column-item.is in
      omega arith;
  rest =
      goes_on c.loop-column.at c.width.result c.loop-column.column-index c.args.columns.now c.column-item.result c.args.bytes.now c.cell_fault-fault.result
      c.loop-column-test.true c.column-item.is c.width.ensures.value c.cell_fault-fault.ensures c.loop-column.invariant.rest (sym c.is_some.ensures ∙ c.if-is_some.false);
}
