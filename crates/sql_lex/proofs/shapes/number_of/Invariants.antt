use Rattle.std.proofs.Common.{◌≡◌, ◌-◌, ◌^◌, min, take}
use Rattle.sql_lex.specs.Spelling.{number_of}
use Rattle.sql_lex.proofs.shapes.number_of.Given as goal

-- the number of the digits so far, or the greatest of its type
abbrev pub invariant-loop-digit : goal.invariant-loop-digit
invariant-loop-digit l = l.number ≡ min (number_of (take l.digit-index l.digits)) (2 ^ 64 - 1)
