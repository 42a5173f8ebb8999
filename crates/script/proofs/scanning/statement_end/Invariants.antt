use Rattle.std.proofs.Common.{◌≡◌, drop}
use Rattle.script.specs.Reading.{end_of, later}
use Rattle.script.specs.declared.scanning.Inside.TheVariants.{Neither}
use Rattle.script.proofs.scanning.statement_end.Given as goal

-- what is left decides how the statement ends
abbrev pub invariant-loop-i : goal.invariant-loop-i
invariant-loop-i l = end_of Neither l.text ≡ later l.i (end_of l.inside (drop l.i l.text))
