use Rattle.std.proofs.Common.{arith, ◌∙◌, ◌++◌, length, refl, sym, ap, take, List}
use Rattle.key_space.specs.Plays.{Rows}
use Rattle.std.proofs.lemmas.List.{take_all}
use Rattle.sql_check.specs.declared.plan.TotalPlan.{TotalPlan}
use Rattle.sql_check.specs.declared.plan.Test.{Test}
use Rattle.std.specs.List.{Any}
use Rattle.std.proofs.Common.{subst}
use Rattle.plain_model.specs.PlanMeaning.{passes_all}
use Rattle.sql_exec.specs.Selects.{sums_of, with_row_added, IsOver}
use Rattle.sql_exec.proofs.Fronts.{front_more}
use Rattle.sql_exec.proofs.Totalling.{goes_over, sums_with, sums_without}
use Rattle.sql_exec.proofs.totals.add_rows.Goals.{else-passes_all-via-then-passes_all+else-not-add_row, else-passes_all-via-else-passes_all}
use Rattle.sql_exec.proofs.totals.add_rows.Goals as goal

pub returns-then-not-add_row-clause-over : goal.returns-then-not-add_row-clause-over
returns-then-not-add_row-clause-over c = λ is before e.
    let row = c.row-item.result in
    let passes = sym (ap (λ (tests : List Test). passes_all tests row) c.as_slice.ensures) ∙ sym c.passes_all.ensures ∙ c.if-passes_all.true in
    goes_over c.args.p.now before c.args.piece.now c.loop-row.row-index row c.loop-row.sums c.loop-row-test.true c.row-item.is (c.loop-row.invariant.sums before e) passes
    (subst (λ (totals : List TotalPlan). Any IsOver (with_row_added totals row c.loop-row.sums)) c.as_slice-then-passes_all.ensures (c.if-not-add_row.ensures.over refl))

pub loop-row-preserved : goal.loop-row-preserved
loop-row-preserved c =
    let p = c.args.p.now in
    let i = c.loop-row.row-index in
    let row = c.row-item.result in
    let tested = sym (ap (λ (tests : List Test). passes_all tests row) c.as_slice.ensures) ∙ sym c.passes_all.ensures in
    let more = λ (before : Rows). ap (sums_of p) (front_more c.args.piece.now i row c.loop-row-test.true c.row-item.is before) in
    record {
      len = elim c.else-passes_all.branch [
        | else-passes_all-via-then-passes_all+else-not-add_row w ↦ ap length w.sums-is ∙ w.add_row.ensures.len ∙ c.loop-row.invariant.len
        | else-passes_all-via-else-passes_all w ↦ ap length w.sums-is ∙ c.loop-row.invariant.len
      ];
      sums = λ before e.
          let rows = before ++ take i c.args.piece.now in
          let so_far = c.loop-row.invariant.sums before e in
          elim c.else-passes_all.branch [
            | else-passes_all-via-then-passes_all+else-not-add_row w ↦
                w.sums-is ∙ w.if-not-add_row.ensures.added refl ∙ ap (λ (totals : List TotalPlan). with_row_added totals row c.loop-row.sums) w.as_slice-then-passes_all.ensures ∙ ap (with_row_added p.totals row) so_far ∙ sums_with p rows row (tested ∙ w.if-passes_all.true) ∙ more before
            | else-passes_all-via-else-passes_all w ↦
                w.sums-is ∙ so_far ∙ sums_without p rows row (tested ∙ w.if-passes_all.false) ∙ more before
          ];
    }

pub returns-clause-added : goal.returns-clause-added
returns-clause-added c = λ is before e. c.loop-row.invariant.sums before e ∙ ap (λ (l : Rows). sums_of c.args.p.now (before ++ l)) (take_all c.loop-row.row-index c.args.piece.now (omega (arith, c.loop-row-test.false)))
