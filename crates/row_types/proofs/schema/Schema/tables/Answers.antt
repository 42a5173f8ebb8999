use Rattle.row_types.proofs.SchemaLaws.{table_count}
use Rattle.row_types.proofs.schema.Schema.tables.Goals as goal

pub returns-clause-few : goal.returns-clause-few
returns-clause-few c = rw (← c.self.view_is) (table_count c.self.inside.tables c.self.invariant)
