use Rattle.std.proofs.Common.{◌≡◌, ◌∷◌, [], length, subst, ◌∙◌}
use Rattle.row_types.specs.SchemaText.{Puts}
use Rattle.row_types.proofs.Putting.{puts_then}
use Rattle.row_types.proofs.schema_text.put_name.Goals as goal

pub returns : goal.returns
returns c =
    let text = c.as_bytes-text.result.now in
    let is : text ≡ c.args.name.now = c.as_bytes-text.ensures.value ∙ c.as_str.ensures.value in
    let both = puts_then (length text ∷ []) text c.args.into.now c.put-at.new.into c.put.new.into c.args.at c.put-at.result c.put.result c.put-at.ensures c.put.ensures in
    subst (λ t. Puts (length t ∷ t) c.args.into.now c.put.new.into c.args.at c.put.result) is both
