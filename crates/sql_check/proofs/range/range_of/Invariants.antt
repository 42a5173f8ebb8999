use Rattle.std.proofs.Common.{◌≡◌, ◌^◌, min, max, map, drop}
use Rattle.std.specs.Prelude.{fold}
use Rattle.sql_parse.specs.declared.statement.Condition.{Condition}
use Rattle.sql_check.specs.KeyRange.{low_end, high_end, key_in, from_of, end_of, on_key}
use Rattle.sql_check.proofs.range.range_of.Given as goal

abbrev pub invariant-loop-condition : goal.invariant-loop-condition
invariant-loop-condition l = record {
  low : fold max l.from (map (λ (c : Condition). low_end c.comparison (key_in c)) (on_key l.def (drop l.condition-index l.conditions))) ≡ from_of (on_key l.def l.conditions);
  high : fold min l.end (map (λ (c : Condition). high_end c.comparison (key_in c)) (on_key l.def (drop l.condition-index l.conditions))) ≡ end_of (on_key l.def l.conditions);
}
