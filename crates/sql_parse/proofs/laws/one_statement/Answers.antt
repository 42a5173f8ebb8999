use Rattle.sql_parse.specs.Grammar.{IsStatement}
use Rattle.sql_parse.specs.Reading.{statement_at}
use Rattle.sql_parse.proofs.ExactRules.{statement_exact}
use Rattle.sql_parse.proofs.Whole.{one_value}
use Rattle.sql_parse.proofs.laws.one_statement.Goals as goal

pub returns : goal.returns
returns c = one_value IsStatement statement_at _ statement_exact
