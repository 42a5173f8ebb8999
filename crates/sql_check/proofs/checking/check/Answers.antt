use Rattle.std.proofs.Common.{◌≡◌, None, sym, ◌∙◌}
use Rattle.sql_check.specs.Misfits.{misfit}
use Rattle.sql_check.proofs.NamedTables.{on_no_table}
use Rattle.sql_check.proofs.checking.check.Goals as goal

pub plan_without-requires : goal.plan_without-requires
plan_without-requires c =
    let fits : misfit c.args.schema.now c.args.statement ≡ None = sym c.misfit.ensures.fault ∙ c.in_default.is in
    on_no_table c.args.schema.now c.args.statement fits (sym c.table_number.ensures.number ∙ c.in-None.is)
