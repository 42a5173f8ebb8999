use Rattle.std.proofs.Common.{refl, sym, ap, subst, ◌<◌, length, arith}
use Rattle.std.proofs.lemmas.Option.{slice_get_read}
use Rattle.row_types.specs.Schema.{IsSchema}
use Rattle.row_types.proofs.SchemaLaws.{table_of_schema}
use Rattle.row_types.proofs.schema.Schema.table.Goals as goal

pub returns-clause-table : goal.returns-clause-table
returns-clause-table c =
    let tables = c.as_slice.result.now in
    let schema : IsSchema tables = subst IsSchema (sym c.as_slice.ensures) c.self.invariant in
    let inside : c.args.table < length tables = omega (arith, c.requires, ap length c.self.view_is, ap length c.as_slice.ensures) in
    table_of_schema tables c.args.table c.index-as_slice-table.result schema (slice_get_read tables (length tables) c.args.table c.index-as_slice-table.result refl inside c.index-as_slice-table.is)
