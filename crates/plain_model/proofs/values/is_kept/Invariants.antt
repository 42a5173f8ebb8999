use Rattle.std.proofs.Common.{◌≡◌, drop}
use Rattle.plain_model.specs.Values.{is_kept}
use Rattle.plain_model.proofs.values.is_kept.Given as goal

abbrev pub invariant-loop-condition : goal.invariant-loop-condition
invariant-loop-condition l = is_kept l.columns (drop l.condition-index l.conditions) l.row ≡ is_kept l.columns l.conditions l.row
