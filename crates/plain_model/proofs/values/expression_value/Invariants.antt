use Rattle.std.proofs.Common.{◌≡◌, drop}
use Rattle.plain_model.specs.Values.{after_steps, expression_value}
use Rattle.plain_model.proofs.values.expression_value.Given as goal

abbrev pub invariant-loop-step : goal.invariant-loop-step
invariant-loop-step l = after_steps l.columns l.row l.value (drop l.step-index l.steps) ≡ expression_value l.columns l.row l.change
