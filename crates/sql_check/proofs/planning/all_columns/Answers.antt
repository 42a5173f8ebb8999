use Rattle.std.proofs.Common.{◌≡◌, ℕ, ◌+◌, List, ◌++◌, [], ◌∷◌, ap, sym, ◌∙◌, arith}
use Rattle.std.specs.List.{range_with_len}
use Rattle.sql_check.proofs.NamedTables.{range_more}
use Rattle.sql_check.proofs.planning.all_columns.Goals as goal

pub loop-column-preserved : goal.loop-column-preserved
loop-column-preserved c =
    let n = c.loop-column.column in
    let plain : 0 + n ≡ n = omega arith in
    c.in_ok-push.ensures.items ∙ ap (λ (l : List ℕ). l ++ n ∷ []) c.loop-column.invariant ∙ sym (range_more 0 n ∙ ap (λ k. range_with_len 0 n ++ k ∷ []) plain)
