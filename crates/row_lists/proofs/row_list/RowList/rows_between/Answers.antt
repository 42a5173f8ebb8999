use Rattle.std.proofs.Common.{◌≡◌, ℕ, List, Option, ◌++◌, map, sym, ap, ◌∙◌, arith, rules}
use Rattle.std.specs.Map.Iter.{deref_pair}
use Rattle.std.proofs.lemmas.Grind.{common_steps}
use Rattle.std.proofs.lemmas.List.{map_push}
use Rattle.std.proofs.lemmas.List.Elements.{filter_map-append}
use Rattle.std.proofs.lemmas.Map.Iter.{rest_more, rest_so_far}
use Rattle.row_types.specs.declared.row.Value.{Value}
use Rattle.row_lists.specs.Held.{Entries, entries_between}
use Rattle.row_lists.proofs.Cuts.{cut_behind}
use Rattle.row_lists.proofs.row_list.RowList.rows_between.Goals as goal

pub returns-then-len-eq-MOST_ROWS-clause-rows : goal.returns-then-len-eq-MOST_ROWS-clause-rows
returns-then-len-eq-MOST_ROWS-clause-rows c =
    let lo = c.args.range.lo.number in
    let hi = c.args.range.hi.number in
    let entries = c.args.self.now in
    let front = map deref_pair c.loop-key.yielded in
    let here : ℕ × Option (List Value) = (c.in-Some.key.now, c.in-Some.row.now) in
    let start : c.into_iter-key-iterator.result ≡ entries_between entries lo hi = search rules in
    let so_far = rest_so_far deref_pair c.loop-key.yielded c.into_iter-key-iterator.result c.loop-key.key-iterator c.loop-key.yielded_by in
    let next = rest_more deref_pair c.loop-key.key-iterator c.next.new.self c.next.result (c.in-Some.key, c.in-Some.row) c.in-Some.is c.next.ensures.steps in
    let cut = cut_behind lo hi entries front here c.next.new.self (search rules) (sym start ∙ so_far ∙ ap (λ (t : Entries). front ++ t) next) in
    grind (arith, common_steps, filter_map-append, cut)

pub loop-key-preserved-else-len-eq-MOST_ROWS : goal.loop-key-preserved-else-len-eq-MOST_ROWS
loop-key-preserved-else-len-eq-MOST_ROWS c = record { rows_are = grind (arith, common_steps, filter_map-append, map_push); few = search rules }

pub loop-key-preserved : goal.loop-key-preserved
loop-key-preserved c = record { rows_are = grind (arith, common_steps, filter_map-append, map_push); few = search rules }
