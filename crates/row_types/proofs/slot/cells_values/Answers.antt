use Rattle.std.proofs.Common.{◌+◌, arith}
use Rattle.row_types.proofs.Cells.{widths_more_le, widths_more}
use Rattle.row_types.proofs.ReadingCells.{no_fault_more, values_more}
use Rattle.row_types.proofs.slot.cells_values.Goals as goal

pub slice_bounds-cell_value-end : goal.slice_bounds-cell_value-end
slice_bounds-cell_value-end c =
    let most = widths_more_le c.args.columns.now c.loop-column.column-index c.column-item.result c.loop-column-test.true c.column-item.is in
    omega arith

pub cell_value-requires-clause-sound : goal.cell_value-requires-clause-sound
cell_value-requires-clause-sound c = (
  c.loop-column.at + 1,
  (no_fault_more c.loop-column.at c.width.result c.loop-column.column-index c.args.columns.now c.column-item.result c.args.bytes.now
      c.loop-column-test.true c.column-item.is c.width.ensures.value c.loop-column.invariant.sound).0,
)

pub loop-column-preserved : goal.loop-column-preserved
loop-column-preserved c = record {
  place =
      let more = widths_more c.args.columns.now c.loop-column.column-index c.column-item.result c.loop-column-test.true c.column-item.is in
      omega arith;
  sound =
      (no_fault_more c.loop-column.at c.width.result c.loop-column.column-index c.args.columns.now c.column-item.result c.args.bytes.now
      c.loop-column-test.true c.column-item.is c.width.ensures.value c.loop-column.invariant.sound).1;
  values =
      rw c.in_ok-push.ensures.items (values_more c.loop-column.at c.width.result c.loop-column.column-index c.args.columns.now c.column-item.result c.args.bytes.now
      c.loop-column-test.true c.column-item.is c.width.ensures.value c.loop-column.values.items _ c.in_ok-cell_value.field-0 c.in_ok-cell_value.ensures c.loop-column.invariant.values);
}
