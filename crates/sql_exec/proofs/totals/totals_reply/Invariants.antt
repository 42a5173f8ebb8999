use Rattle.std.proofs.Common.{◌≡◌, ◌++◌, map, drop}
use Rattle.std.specs.List.{list_all}
use Rattle.row_types.specs.declared.row.Value.TheVariants.{Int}
use Rattle.plain_model.specs.Values.{fits_int}
use Rattle.sql_exec.proofs.totals.totals_reply.Given as goal

abbrev pub invariant-loop-sum : goal.invariant-loop-sum
invariant-loop-sum l = record {
  fits : list_all fits_int (drop l.sum-index l.sums) ≡ list_all fits_int l.sums;
  values : l.values.items ++ map Int (drop l.sum-index l.sums) ≡ map Int l.sums;
}
