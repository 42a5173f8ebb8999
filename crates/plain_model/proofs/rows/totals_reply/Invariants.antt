use Rattle.std.proofs.Common.{◌≡◌, ◌++◌, map, drop}
use Rattle.std.specs.List.{list_all}
use Rattle.row_types.specs.declared.row.Value.TheVariants.{Int}
use Rattle.plain_model.specs.Values.{fits_int}
use Rattle.plain_model.specs.Meaning.{total_of}
use Rattle.plain_model.proofs.rows.totals_reply.Given as goal

abbrev pub invariant-loop-total : goal.invariant-loop-total
invariant-loop-total l = record {
  fits : list_all fits_int (map (total_of l.columns l.found) (drop l.total-index l.asked)) ≡ list_all fits_int (map (total_of l.columns l.found) l.asked);
  values : l.values.items ++ map Int (map (total_of l.columns l.found) (drop l.total-index l.asked)) ≡ map Int (map (total_of l.columns l.found) l.asked);
}
