use Rattle.std.proofs.Common.{◌≡◌, ◌+◌, Bool, true, false, sym, subst, ◌∙◌, arith}
use Rattle.std.proofs.lemmas.Bool.Decides.{nat_tests}
use Rattle.sql_lex.proofs.Literals.{Kept, kept_pair, kept_quote, kept_allowed}
use Rattle.sql_lex.proofs.shapes.closes.Goals as goal
use Rattle.sql_lex.proofs.shapes.closes.Goals.{then-pending+else-byte-ne39, else-pending+then-byte-eq39, else-pending+else-byte-eq39+else-not-is_allowed}

pub loop-i-preserved : goal.loop-i-preserved
loop-i-preserved c =
    let bytes = c.args.bytes.now in
    let i = c.loop-i.i in
    let inside = c.loop-i-test.true in
    let kept : (b : Bool) → c.loop-i.pending ≡ b → Kept bytes b i = λ b e. subst (λ p. Kept bytes p i) e c.loop-i.invariant in
    elim c.if-pending.branch as (λ _. Kept bytes c.if-pending.pending (i + 1)) [
      | then-pending+else-byte-ne39 w ↦ subst (λ p. Kept bytes p (i + 1)) (sym w.pending-is) (kept_pair bytes i inside (kept true w.if-pending.true) w.if-byte-ne39.false)
      | else-pending+then-byte-eq39 w ↦ subst (λ p. Kept bytes p (i + 1)) (sym w.pending-is) (kept_quote bytes i inside (kept false w.if-pending.false) w.if-byte-eq39.true)
      | else-pending+else-byte-eq39+else-not-is_allowed w ↦ subst (λ p. Kept bytes p (i + 1)) (sym w.if-pending.false ∙ sym w.pending-is) (kept_allowed bytes i inside (kept false w.if-pending.false) (grind (arith, nat_tests)) (sym w.is_allowed.ensures ∙ w.if-not-is_allowed.false))
    ]
