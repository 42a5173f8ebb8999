use Rattle.sql_parse.specs.Grammar.{IsStatement}
use Rattle.sql_parse.specs.Reading.{statement_at}
use Rattle.sql_parse.proofs.ExactRules.{statement_exact}
use Rattle.sql_parse.proofs.Whole.{one_value, answer}
use Rattle.sql_parse.proofs.Answering.{one_text, no_fault, one_fault}
use Rattle.sql_parse.proofs.laws.one_answer.Goals as goal

pub returns-clause-some_answer : goal.returns-clause-some_answer
returns-clause-some_answer c = λ base text. answer IsStatement statement_at _ statement_exact base text (c.each_text_has_tokens.ensures base text)

pub returns-clause-one_statement : goal.returns-clause-one_statement
returns-clause-one_statement c = λ base text. one_text IsStatement (one_value IsStatement statement_at _ statement_exact) c.one_token_list.ensures c.one_end.ensures.not_both c.one_end.ensures.one_place base text

pub returns-clause-not_both : goal.returns-clause-not_both
returns-clause-not_both c = λ base at text. no_fault IsStatement (one_value IsStatement statement_at _ statement_exact) c.one_token_list.ensures c.one_end.ensures.not_both c.one_end.ensures.one_place base text at

pub returns-clause-one_place : goal.returns-clause-one_place
returns-clause-one_place c = λ base at place text. one_fault IsStatement (one_value IsStatement statement_at _ statement_exact) c.one_token_list.ensures c.one_end.ensures.not_both c.one_end.ensures.one_place base text at place
