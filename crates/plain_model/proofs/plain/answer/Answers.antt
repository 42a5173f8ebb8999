use Rattle.std.proofs.Common.{◌≡◌, ℕ, Option, None, Some, Ok, Err, inl, refl, ap, sym, subst, ◌∙◌}
use Rattle.row_types.specs.Tables.{Tables}
use Rattle.sql_parse.specs.Grammar.{IsStatement}
use Rattle.sql_parse.specs.Faults.{IsText, IsFault, IfSyntax}
use Rattle.plain_model.specs.declared.reply.Reply.{Reply}
use Rattle.plain_model.specs.declared.reply.Reply.TheVariants.{Refused}
use Rattle.plain_model.specs.declared.reply.Refusal.{Refusal}
use Rattle.plain_model.specs.declared.reply.Refusal.TheVariants.{Syntax}
use Rattle.plain_model.specs.Meaning.{means}
use Rattle.plain_model.specs.Blocks.{misplaced, AnswersUnless, IsPlain, PlainAnswer}
use Rattle.plain_model.proofs.NothingUsedUp.{is_plain, misplaced_plain, means_plain, if_ok_gives}
use Rattle.plain_model.proofs.plain.answer.Goals as goal

pub returns-in-Err-Syntax : goal.returns-in-Err-Syntax
returns-in-Err-Syntax c =
    let placed = c.args.text.now in
    let at = c.in-Err-Syntax.at in
    let found = subst (λ f. IfSyntax f (λ (n : ℕ). IsFault IsStatement c.base.result c.as_str.result.now n)) c.in-Err-Syntax.field-0-is c.in-Err-Syntax.ensures.syntax in
    let read : IsFault IsStatement placed.base placed.text at =
    subst (λ b. IsFault IsStatement b placed.text at) c.base.ensures.place (subst (λ t. IsFault IsStatement c.base.result t at) (c.as_str.ensures.value ∙ c.text.ensures) found) in
    (Err at, read, (ap (λ (n : ℕ). Refused (Syntax n)) c.in-Err-Syntax.at-is, c.in_ok-copy-in-Err-Syntax.ensures), is_plain _ refl)

pub returns-in-Some : goal.returns-in-Some
returns-in-Some c =
    let placed = c.args.text.now in
    let statement = c.in-Ok.statement in
    let read : IsText IsStatement placed.base placed.text statement =
    subst (λ b. IsText IsStatement b placed.text statement) c.base.ensures.place (subst (λ t. IsText IsStatement c.base.result t statement) (c.as_str.ensures.value ∙ c.text.ensures) c.in-Ok.ensures.statement) in
    let e : misplaced c.args.is_inside statement ≡ Some c.in-Some.refusal = sym c.misplaced.ensures ∙ c.in-Some.is in (
      Ok statement,
      read,
      subst (λ (o : Option Refusal). AnswersUnless o statement c.args.tables.now (Refused c.in-Some.refusal) c.in_ok-copy-in-Some.field-0) (sym e) (refl, c.in_ok-copy-in-Some.ensures),
      misplaced_plain c.args.is_inside statement c.in-Some.refusal e,
    )

pub returns : goal.returns
returns c =
    let placed = c.args.text.now in
    let tables = c.args.tables.now in
    let statement = c.in-Ok.statement in
    let read : IsText IsStatement placed.base placed.text statement =
    subst (λ b. IsText IsStatement b placed.text statement) c.base.ensures.place (subst (λ t. IsText IsStatement c.base.result t statement) (c.as_str.ensures.value ∙ c.text.ensures) c.in-Ok.ensures.statement) in
    let none : misplaced c.args.is_inside statement ≡ None = sym c.misplaced.ensures ∙ c.in-None.is in
    if_ok_gives c.means.result (λ done. (done.0, done.1) ≡ means tables statement) (λ done. PlainAnswer c.args.is_inside placed tables done.0 done.1)
    (λ done same.
    let reply = ap (λ (p : Reply × Tables). p.0) same in
    let after = ap (λ (p : Reply × Tables). p.1) same in
    (Ok statement, read, subst (λ (o : Option Refusal). AnswersUnless o statement tables done.0 done.1) (sym none) (inl (reply, after)), subst IsPlain (sym reply) (means_plain tables statement)))
    c.means.ensures
