use Rattle.sql_lex.specs.declared.token.Sign.TheVariants.{Comma}
use Rattle.sql_parse.specs.Grammar.{sign, IsValue}
use Rattle.sql_parse.specs.Reading.{value_at}
use Rattle.sql_parse.proofs.Loops.{round_keeps}
use Rattle.sql_parse.proofs.ExactTokens.{quiet_sign}
use Rattle.sql_parse.proofs.ExactValues.{value_exact}
use Rattle.sql_parse.proofs.parser.Parser.values.Goals as goal

pub commas-preserved : goal.commas-preserved
commas-preserved c = round_keeps (sign Comma) IsValue value_at _ value_exact (quiet_sign Comma) c.commas.self _ _ _ c.commas-test.ensures.found c.commas-test.ensures.passed c.in_ok-value-2.ensures _ _ _ c.commas.invariant c.in_ok-push-2.ensures.ok
