use Rattle.sql_lex.proofs.Literals.{Kept}
use Rattle.sql_lex.proofs.shapes.closes.Given as goal

abbrev pub invariant-loop-i : goal.invariant-loop-i
invariant-loop-i l = Kept l.bytes l.pending l.i
