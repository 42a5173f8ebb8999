use Rattle.std.proofs.Common.{◌≡◌, Some, ap, sym, ◌∙◌}
use Rattle.row_types.specs.Schema.{table_named}
use Rattle.sql_check.specs.Misfits.{table_of}
use Rattle.sql_check.proofs.NamedTables.{misfit_nowhere, misfit_there}
use Rattle.sql_check.proofs.checking.misfit.Goals as goal

pub returns-in-None-clause-fault : goal.returns-in-None-clause-fault
returns-in-None-clause-fault c =
    let schema = c.args.schema.now in
    let named : table_of c.args.statement.now ≡ Some c.in_ok-name.name.now = sym c.in_ok-name.ensures in
    let none = ap (table_named schema) (sym c.as_str.ensures.value) ∙ sym c.find_table.ensures.value ∙ c.in-None.is in
    sym (misfit_nowhere schema c.args.statement.now c.in_ok-name.name.now named none)

pub returns-in-Some-clause-fault : goal.returns-in-Some-clause-fault
returns-in-Some-clause-fault c =
    let schema = c.args.schema.now in
    let named : table_of c.args.statement.now ≡ Some c.in_ok-name.name.now = sym c.in_ok-name.ensures in
    let place = ap (table_named schema) (sym c.as_str.ensures.value) ∙ sym c.find_table.ensures.value ∙ c.in-Some.is in
    c.fault_in.ensures.fault ∙ sym (misfit_there schema c.args.statement.now c.in_ok-name.name.now c.in-Some.table c.table.result.now named place c.table.ensures.value)
