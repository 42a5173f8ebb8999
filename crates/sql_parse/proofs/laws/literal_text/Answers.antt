use Rattle.sql_parse.proofs.Quotes.{unquoted_doubled}
use Rattle.sql_parse.proofs.laws.literal_text.Goals as goal

pub returns : goal.returns
returns c = unquoted_doubled
