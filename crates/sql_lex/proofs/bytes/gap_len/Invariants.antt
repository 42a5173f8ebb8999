use Rattle.std.proofs.Common.{◌≡◌, drop}
use Rattle.sql_lex.specs.Reading.{after_gap, from_token}
use Rattle.sql_lex.proofs.bytes.gap_len.Given as goal

-- what is left decides where the gap ends
abbrev pub invariant-loop-i : goal.invariant-loop-i
invariant-loop-i l = after_gap l.in_comment (drop l.i l.bytes) ≡ from_token l.bytes
