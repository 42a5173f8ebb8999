use Rattle.row_types.proofs.TablesLaws.{created_are, length-verdicts}
use Rattle.row_types.proofs.schema.created_are_tables.Goals as goal

pub returns-clause-tables : goal.returns-clause-tables
returns-clause-tables c = created_are

pub returns-clause-verdicts : goal.returns-clause-verdicts
returns-clause-verdicts c = length-verdicts
