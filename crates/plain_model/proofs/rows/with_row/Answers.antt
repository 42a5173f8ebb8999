use Rattle.std.proofs.Common.{List, ◌++◌, [], ◌∷◌, ap, ◌∙◌}
use Rattle.std.specs.Prelude.{filter, nat_lt}
use Rattle.std.proofs.lemmas.List.{append_assoc}
use Rattle.row_types.specs.Keys.{row_key}
use Rattle.row_types.specs.declared.row.Value.{Value}
use Rattle.key_space.specs.Plays.{Rows}
use Rattle.plain_model.proofs.rows.with_row.Goals as goal

pub returns : goal.returns
returns c =
    let marks = c.args.marks.now in
    let rows = c.args.rows.now in
    let row = c.args.row.now in
    let low : Rows = filter (λ other. nat_lt (row_key marks other) (row_key marks row)) rows in
    let above : Rows = filter (λ other. nat_lt c.row_key-2.result.number (row_key marks other)) rows in
    let low_is = c.in_ok-all.ensures ∙ ap (λ k. filter (λ other. nat_lt (row_key marks other) k) rows) c.row_key.ensures in
    let high_is = ap (λ k. filter (λ other. nat_lt k (row_key marks other)) rows) c.row_key-2.ensures in
    let pushed = c.in_ok-push.ensures.items ∙ ap (λ (l : Rows). l ++ c.in_ok-copy.field-0 ∷ []) low_is ∙ ap (λ (r : List Value). low ++ r ∷ []) c.in_ok-copy.ensures in
    c.in_ok-push_above.ensures ∙ ap (λ (l : Rows). l ++ above) pushed ∙ append_assoc low (row ∷ []) above ∙ ap (λ (h : Rows). low ++ row ∷ h) high_is
