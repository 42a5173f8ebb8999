use Rattle.sql_lex.proofs.Runs.{one_token_list as one_list}
use Rattle.sql_lex.proofs.laws.one_token_list.Goals as goal

pub returns : goal.returns
returns c = one_list
