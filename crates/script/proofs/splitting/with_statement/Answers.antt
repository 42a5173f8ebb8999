use Rattle.std.proofs.Common.{◌≡◌, [], ◌∷◌, ◌++◌, sym, ap, subst, ◌∙◌}
use Rattle.std.specs.Prelude.{IfOk}
use Rattle.row_types.specs.Block.{Placed}
use Rattle.script.specs.Building.{Has}
use Rattle.script.specs.Statements.{IsEmpty}
use Rattle.script.proofs.SectionLaws.{adds_so}
use Rattle.script.proofs.splitting.with_statement.Goals as goal

pub returns : goal.returns
returns c =
    let text = c.args.text.now in
    let statement : Placed = record { base = c.args.base; text = text } in
    let same : c.new-statement.result ≡ statement = c.new-statement.ensures ∙ ap (λ t. record { base = c.args.base; text = t }) c.in_ok-new.ensures in
    let some : IsEmpty text → ⊥ = λ e. absurd (let yes = (c.is_empty.ensures 0).1 e in let both = sym yes ∙ c.if-is_empty.false in cc) in
    adds_so statement c.args.builder c.with.result some (λ statements has. subst (λ s. IfOk c.with.result (λ builder. Has builder (statements ++ s ∷ []))) same (c.with.ensures statements has))
