use Rattle.sql_lex.specs.declared.token.Sign.TheVariants.{Comma}
use Rattle.sql_parse.specs.Grammar.{sign, IsColumn}
use Rattle.sql_parse.specs.Reading.{column_at}
use Rattle.sql_parse.proofs.Loops.{round_keeps, round_ends}
use Rattle.sql_parse.proofs.ExactTokens.{quiet_sign}
use Rattle.sql_parse.proofs.ExactRules.{column_exact}
use Rattle.sql_parse.proofs.parser.Parser.columns.Goals as goal

pub commas-smaller : goal.commas-smaller
commas-smaller c = round_ends (sign Comma) IsColumn column_at _ column_exact (quiet_sign Comma) c.commas.self _ _ _ c.commas-test.ensures.found c.commas-test.ensures.passed c.in_ok-column-2.ensures

pub commas-preserved : goal.commas-preserved
commas-preserved c = round_keeps (sign Comma) IsColumn column_at _ column_exact (quiet_sign Comma) c.commas.self _ _ _ c.commas-test.ensures.found c.commas-test.ensures.passed c.in_ok-column-2.ensures _ _ _ c.commas.invariant c.in_ok-push-2.ensures.ok
