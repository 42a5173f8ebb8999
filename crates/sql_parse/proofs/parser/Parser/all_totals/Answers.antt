use Rattle.sql_lex.specs.declared.token.Sign.TheVariants.{Comma}
use Rattle.sql_parse.specs.Grammar.{sign, IsTotal}
use Rattle.sql_parse.specs.Reading.{total_at}
use Rattle.sql_parse.proofs.Loops.{round_keeps, round_ends}
use Rattle.sql_parse.proofs.ExactTokens.{quiet_sign}
use Rattle.sql_parse.proofs.ExactRules.{total_exact}
use Rattle.sql_parse.proofs.parser.Parser.all_totals.Goals as goal

pub commas-smaller : goal.commas-smaller
commas-smaller c = round_ends (sign Comma) IsTotal total_at _ total_exact (quiet_sign Comma) c.commas.self _ _ _ c.commas-test.ensures.found c.commas-test.ensures.passed c.in_ok-total-2.ensures

pub commas-preserved : goal.commas-preserved
commas-preserved c = round_keeps (sign Comma) IsTotal total_at _ total_exact (quiet_sign Comma) c.commas.self _ _ _ c.commas-test.ensures.found c.commas-test.ensures.passed c.in_ok-total-2.ensures _ _ _ c.commas.invariant c.in_ok-push-2.ensures.ok
