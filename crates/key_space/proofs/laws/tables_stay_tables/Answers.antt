use Rattle.key_space.proofs.PlaysLaws.{tables_stay, schema_stays}
use Rattle.key_space.proofs.laws.tables_stay_tables.Goals as goal

pub returns-clause-tables : goal.returns-clause-tables
returns-clause-tables c = tables_stay

pub returns-clause-schema : goal.returns-clause-schema
returns-clause-schema c = schema_stays
