use Rattle.std.proofs.Common.{take, subst, sym, arith}
use Rattle.std.specs.List.{flat_map}
use Rattle.row_types.specs.SchemaText.{column_text, Puts}
use Rattle.row_types.proofs.Putting.{puts_then, flat_map_more, flat_map_room}
use Rattle.row_types.proofs.schema_text.put_columns.Goals as goal

pub put_column-end-requires : goal.put_column-end-requires
put_column-end-requires c =
    let room = flat_map_room column_text c.args.columns.now c.loop-column.column-index c.column-item.result c.loop-column-test.true c.column-item.is in
    omega (arith, room, c.loop-column.invariant.ends, c.loop-column.invariant.len)

pub loop-column-preserved : goal.loop-column-preserved
loop-column-preserved c =
    let columns = c.args.columns.now in
    let i = c.loop-column.column-index in
    let more = flat_map_more column_text columns i c.column-item.result c.loop-column-test.true c.column-item.is in
    subst (λ t. Puts t c.args.into.now c.put_column-end.new.into c.args.at c.put_column-end.result) (sym more)
    (puts_then (flat_map column_text (take i columns)) (column_text c.column-item.result) c.args.into.now c.loop-column.into c.put_column-end.new.into
    c.args.at c.loop-column.end c.put_column-end.result c.loop-column.invariant c.put_column-end.ensures)
