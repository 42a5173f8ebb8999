use Rattle.std.proofs.Common.{List, ap, sym, subst, ◌∙◌}
use Rattle.std.proofs.lemmas.Result.{err_from_is_err_and}
use Rattle.sql_lex.specs.Seen.{items_of}
use Rattle.sql_lex.specs.Tokens.{Item}
use Rattle.sql_parse.specs.declared.fault.ParseFault.{ParseFault}
use Rattle.sql_parse.specs.Parsed.{FailsAs}
use Rattle.sql_parse.specs.Grammar.{IsStatement}
use Rattle.sql_parse.specs.Reading.{statement_at, whole_of}
use Rattle.sql_parse.proofs.ExactRules.{statement_exact}
use Rattle.sql_parse.proofs.Whole.{answers_statement, answers_fault, answers_no_token}
use Rattle.sql_parse.proofs.parsing.parse.Goals as goal

pub returns-in_err-statement-clause-syntax : goal.returns-in_err-statement-clause-syntax
returns-in_err-statement-clause-syntax c =
    let found = c.in_ok-found.found in
    let base = c.args.base in
    let text = c.args.text.now in
    let fails : FailsAs c.in_err-statement.field-0.0 (whole_of statement_at c.end_of-end.result (items_of found.tokens.items)) = subst (λ (l : List Item). FailsAs c.in_err-statement.field-0.0 (whole_of statement_at c.end_of-end.result l)) (ap items_of c.deref.ensures.value) c.in_err-statement.ensures in
    let p = err_from_is_err_and c.from_residual-in_err-statement.result c.from_residual-in_err-statement.ensures.1 in
    rw p.1 (answers_fault IsStatement statement_at _ statement_exact base text (items_of found.tokens.items) found.end c.end_of-end.result c.in_ok-found.ensures c.end_of-end.ensures p.0 (subst (λ (f : ParseFault). FailsAs f (whole_of statement_at c.end_of-end.result (items_of found.tokens.items))) (sym p.2) fails))

pub returns-in-Whole-clause-statement : goal.returns-in-Whole-clause-statement
returns-in-Whole-clause-statement c =
    let found = c.in_ok-found.found in
    answers_statement IsStatement statement_at _ statement_exact c.args.base c.args.text.now (items_of found.tokens.items) found.end c.end_of-end.result c.in_ok-found.ensures c.end_of-end.ensures c.in_ok-statement.statement c.in-Whole.is (ap (λ l. whole_of statement_at c.end_of-end.result (items_of l)) (sym c.deref.ensures.value) ∙ c.in_ok-statement.ensures)

pub returns-clause-syntax : goal.returns-clause-syntax
returns-clause-syntax c =
    let found = c.in_ok-found.found in
    answers_no_token IsStatement statement_at _ statement_exact c.args.base c.args.text.now (items_of found.tokens.items) found.end c.end_of-end.result c.in_ok-found.ensures c.end_of-end.ensures c.in-NoToken.at c.in_ok-statement.statement c.in-NoToken.is (ap (λ l. whole_of statement_at c.end_of-end.result (items_of l)) (sym c.deref.ensures.value) ∙ c.in_ok-statement.ensures)
