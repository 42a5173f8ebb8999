use Rattle.std.proofs.Common.{◌≡◌, ◌+◌, drop, not, eqb, ℕ}
use Rattle.std.specs.List.{prefix_len}
use Rattle.sql_parse.proofs.literal.plain_len.Given as goal

abbrev pub invariant-loop-i : goal.invariant-loop-i
invariant-loop-i l = l.i + prefix_len (λ (b : ℕ). not (eqb b 39)) (drop l.i l.bytes) ≡ prefix_len (λ (b : ℕ). not (eqb b 39)) l.bytes
