use Rattle.sql_lex.proofs.Runs.{has_tokens}
use Rattle.sql_lex.proofs.laws.each_text_has_tokens.Goals as goal

pub returns : goal.returns
returns c = has_tokens
