use Rattle.std.proofs.Common.{◌≡◌, ℕ, ◌+◌, List, ◌++◌, [], ◌∷◌, take, ap, sym, ◌∙◌}
use Rattle.std.proofs.lemmas.List.{append-nil}
use Rattle.sql_parse.specs.Grammar.{marks_of}
use Rattle.sql_parse.proofs.KeyMarks.{marks_more, marks_yes, marks_no}
use Rattle.sql_parse.proofs.creates.marks_of.Goals as goal
use Rattle.sql_parse.proofs.creates.marks_of.Goals.{then-column+in_ok-push, else-column}

pub loop-i-preserved : goal.loop-i-preserved
loop-i-preserved c =
    let columns = c.args.columns.now in
    let i = c.loop-i.i in
    let column = c.index-columns-i.result in
    let marks = marks_of 0 (take i columns) in
    let more = marks_more columns i column c.loop-i-test.true c.index-columns-i.is in
    elim c.if-column.branch as (λ _. c.if-column.marks ≡ marks_of 0 (take (i + 1) columns)) [
      | then-column+in_ok-push w ↦ w.marks-is ∙ w.in_ok-push.ensures.ok ∙ ap (λ (l : List ℕ). l ++ w.min.result ∷ []) c.loop-i.invariant ∙ ap (λ (n : ℕ). marks ++ n ∷ []) w.min.ensures ∙ ap (λ (l : List ℕ). marks ++ l) (sym (marks_yes i column w.if-column.true)) ∙ sym more
      | else-column w ↦ w.marks-is ∙ c.loop-i.invariant ∙ sym (append-nil marks) ∙ ap (λ (l : List ℕ). marks ++ l) (sym (marks_no i column w.if-column.false)) ∙ sym more
    ]
