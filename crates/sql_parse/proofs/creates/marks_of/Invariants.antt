use Rattle.std.proofs.Common.{◌≡◌, take}
use Rattle.sql_parse.specs.Grammar.{marks_of}
use Rattle.sql_parse.proofs.creates.marks_of.Given as goal

-- the marks of the columns so far
abbrev pub invariant-loop-i : goal.invariant-loop-i
invariant-loop-i l = l.marks ≡ marks_of 0 (take l.i l.columns)
