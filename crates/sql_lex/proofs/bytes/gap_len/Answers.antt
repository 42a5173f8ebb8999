use Rattle.std.proofs.Common.{◌≡◌, ◌+◌, Bool, true, false, drop, sym, ap, ◌∙◌}
use Rattle.sql_lex.specs.Tokens.{opens_comment}
use Rattle.sql_lex.specs.Reading.{after_gap, from_token}
use Rattle.sql_lex.proofs.Fronts.{slice_rest}
use Rattle.sql_lex.proofs.Gaps.{gap_in_comment, gap_opens, gap_blank}
use Rattle.sql_lex.proofs.bytes.gap_len.Goals as goal
use Rattle.sql_lex.proofs.bytes.gap_len.Goals.{then-in_comment, else-in_comment+then-opens_comment, else-in_comment+else-opens_comment+else-not-is_blank}

pub loop-i-preserved : goal.loop-i-preserved
loop-i-preserved c =
    let bytes = c.args.bytes.now in
    let i = c.loop-i.i in
    let inside = c.loop-i-test.true in
    let left = drop (i + 1) bytes in
    let before : (b : Bool) → c.loop-i.in_comment ≡ b → after_gap b (drop i bytes) ≡ from_token bytes = λ b e. ap (λ (p : Bool). after_gap p (drop i bytes)) (sym e) ∙ c.loop-i.invariant in
    let rest = slice_rest bytes i in
    elim c.if-in_comment.branch as (λ _. after_gap c.if-in_comment.in_comment left ≡ from_token bytes) [
      | then-in_comment w ↦ ap (λ (p : Bool). after_gap p left) w.in_comment-is ∙ sym (gap_in_comment bytes i inside) ∙ before true w.if-in_comment.true
      | else-in_comment+then-opens_comment w ↦ ap (λ (p : Bool). after_gap p left) w.in_comment-is ∙ sym (gap_opens bytes i inside (ap opens_comment (sym rest) ∙ sym w.opens_comment.ensures ∙ w.if-opens_comment.true)) ∙ before false w.if-in_comment.false
      | else-in_comment+else-opens_comment+else-not-is_blank w ↦ ap (λ (p : Bool). after_gap p left) (w.in_comment-is ∙ w.if-in_comment.false) ∙ sym (gap_blank bytes i inside (ap opens_comment (sym rest) ∙ sym w.opens_comment.ensures ∙ w.if-opens_comment.false) (sym w.is_blank.ensures ∙ w.if-not-is_blank.false)) ∙ before false w.if-in_comment.false
    ]
