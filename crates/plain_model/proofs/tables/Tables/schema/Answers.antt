use Rattle.std.proofs.Common.{ap, sym, ◌∙◌}
use Rattle.row_types.specs.Tables.{schema_of}
use Rattle.plain_model.proofs.Viewing.{paired_schema}
use Rattle.plain_model.proofs.tables.Tables.schema.Goals as goal

pub returns-clause-value : goal.returns-clause-value
returns-clause-value c = sym (ap schema_of (sym c.self.view_is) ∙ paired_schema c.self.inside.schema c.self.inside.lists.items c.self.invariant.len)
