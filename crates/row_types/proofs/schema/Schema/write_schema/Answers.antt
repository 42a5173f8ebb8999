use Rattle.std.proofs.Common.{ap, ◌∷◌, length, take, subst, sym, refl, arith}
use Rattle.std.specs.List.{flat_map}
use Rattle.std.proofs.lemmas.Option.{slice_get_read}
use Rattle.row_types.specs.Schema.{IsSchema}
use Rattle.row_types.specs.SchemaText.{table_text, Puts}
use Rattle.row_types.proofs.SchemaLaws.{table_count, table_of_schema}
use Rattle.row_types.proofs.Putting.{puts_first, puts_then, flat_map_more, flat_map_room}
use Rattle.row_types.proofs.schema.Schema.write_schema.Goals as goal

pub overflow_cast-into : goal.overflow_cast-into
overflow_cast-into c =
    let few = table_count c.args.self.now c.tables-tables.ensures.schema in
    let same = ap length c.tables-tables.ensures.value in
    omega (arith, few, same)

pub loop-table-init : goal.loop-table-init
loop-table-init c = puts_first c.args.into.now (length c.tables-tables.result.now) (omega arith)

pub put_table-at-requires-clause-table : goal.put_table-at-requires-clause-table
put_table-at-requires-clause-table c =
    let tables = c.tables-tables.result.now in
    let schema = subst IsSchema (sym c.tables-tables.ensures.value) c.tables-tables.ensures.schema in
    table_of_schema tables c.loop-table.table-index c.table-item.result schema (slice_get_read tables (length tables) c.loop-table.table-index c.table-item.result refl c.loop-table-test.true c.table-item.is)

pub put_table-at-requires-clause-room : goal.put_table-at-requires-clause-room
put_table-at-requires-clause-room c =
    let room = flat_map_room table_text c.tables-tables.result.now c.loop-table.table-index c.table-item.result c.loop-table-test.true c.table-item.is in
    let whole = ap (λ ts. length (flat_map table_text ts)) c.tables-tables.ensures.value in
    omega (arith, room, whole, c.requires, c.loop-table.invariant.ends, c.loop-table.invariant.len)

pub loop-table-preserved : goal.loop-table-preserved
loop-table-preserved c =
    let tables = c.tables-tables.result.now in
    let i = c.loop-table.table-index in
    let more = flat_map_more table_text tables i c.table-item.result c.loop-table-test.true c.table-item.is in
    subst (λ t. Puts (length tables ∷ t) c.args.into.now c.put_table-at.new.into 0 c.put_table-at.result) (sym more)
    (puts_then (length tables ∷ flat_map table_text (take i tables)) (table_text c.table-item.result) c.args.into.now c.loop-table.into c.put_table-at.new.into
    0 c.loop-table.at c.put_table-at.result c.loop-table.invariant c.put_table-at.ensures)
