use Rattle.std.proofs.Common.{◌≡◌, drop}
use Rattle.plain_model.specs.PlanMeaning.{passes_all}
use Rattle.sql_exec.proofs.values.passes_all.Given as goal

abbrev pub invariant-loop-test : goal.invariant-loop-test
invariant-loop-test l = passes_all (drop l.test-index l.conditions) l.row ≡ passes_all l.conditions l.row
