use Rattle.std.proofs.Common.{ℕ, Some, Ok, Err, ap, sym, subst, ◌∙◌}
use Rattle.sql_parse.specs.Grammar.{IsStatement}
use Rattle.sql_parse.specs.Faults.{IsText, IsFault, IfSyntax}
use Rattle.plain_model.specs.declared.reply.Refusal.TheVariants.{Syntax}
use Rattle.engine_txn.proofs.statement.read.Goals as goal

pub returns-in-Err-Syntax-clause-read : goal.returns-in-Err-Syntax-clause-read
returns-in-Err-Syntax-clause-read c =
    let placed = c.args.text.now in
    let at = c.in-Err-Syntax.at in
    let found = subst (λ f. IfSyntax f (λ (n : ℕ). IsFault IsStatement c.base.result c.as_str.result.now n)) c.in-Err-Syntax.field-0-is c.in-Err-Syntax.ensures.syntax in
    let read : IsFault IsStatement placed.base placed.text at =
    subst (λ b. IsFault IsStatement b placed.text at) c.base.ensures.place (subst (λ t. IsFault IsStatement c.base.result t at) (c.as_str.ensures.value ∙ c.text.ensures) found) in
    (Err at, read, ap (λ (n : ℕ). Some (Syntax n)) c.in-Err-Syntax.at-is)

pub returns-in-Some-clause-read : goal.returns-in-Some-clause-read
returns-in-Some-clause-read c =
    let placed = c.args.text.now in
    let statement = c.in-Ok.statement in
    let read : IsText IsStatement placed.base placed.text statement =
    subst (λ b. IsText IsStatement b placed.text statement) c.base.ensures.place (subst (λ t. IsText IsStatement c.base.result t statement) (c.as_str.ensures.value ∙ c.text.ensures) c.in-Ok.ensures.statement) in
    (Ok statement, read, sym c.misplaced.ensures ∙ c.in-Some.is)
