use Rattle.std.proofs.Common.{rules, ◌≡◌, ◌+ℤ◌, pos, to_z, of_z, get_or, subst, ap, ◌∙◌, refl}
use Rattle.std.specs.Int.{w128}
use Rattle.sql_exec.specs.Selects.{IsOver}
use Rattle.sql_exec.proofs.Totalling.{over_at}
use Rattle.sql_exec.proofs.totals.add_row.Goals as goal

pub returns-in-None-clause-over : goal.returns-in-None-clause-over
returns-in-None-clause-over c =
    let sum = get_or c.loop-i.sums c.loop-i.i (pos 0) in
    let same : to_z w128 (of_z w128 sum) ≡ sum = search rules in
    let part : to_z w128 (of_z w128 c.part_of.result) ≡ c.part_of.result = search rules in
    λ e. over_at c.args.totals.now c.args.row.now c.loop-i.sums _ c.loop-i.i c.loop-i-test.true c.loop-i.invariant.len c.loop-i.invariant.rest
    (subst IsOver (ap (λ n. n +ℤ to_z w128 (of_z w128 c.part_of.result)) same ∙ ap (λ n. sum +ℤ n) (part ∙ c.part_of.ensures)) (c.in-None.ensures.over refl))
