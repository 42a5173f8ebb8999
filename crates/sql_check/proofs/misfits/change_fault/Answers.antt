use Rattle.std.proofs.Common.{◌≡◌, List, Option, None, ap, sym, ◌∙◌}
use Rattle.row_types.specs.declared.definition.Column.{Column}
use Rattle.sql_check.specs.Columns.{kind_named}
use Rattle.sql_check.specs.Misfits.{column_names, target_fault, first_fault, term_fault, is_none_left, terms_of}
use Rattle.sql_check.proofs.NamedTables.{change_is}
use Rattle.sql_check.proofs.misfits.change_fault.Goals as goal

pub returns-in-Some-kind_named-clause-fault : goal.returns-in-Some-kind_named-clause-fault
returns-in-Some-kind_named-clause-fault c =
    let earlier = column_names c.args.earlier.now in
    let change = c.args.change.now in
    let kind = c.in-Some-kind_named.kind in
    let none : target_fault c.args.def.now earlier change.column ≡ None = sym c.target_fault.ensures ∙ c.in_default.is in
    let named = ap (λ (l : List Column). kind_named l change.column) (sym c.as_slice-columns.ensures) ∙ sym c.kind_named.ensures ∙ c.in-Some-kind_named.is in
    let terms = c.terms_fault.ensures.fault ∙ ap (λ (l : List Column). first_fault (term_fault l kind (is_none_left change.further)) (terms_of change)) c.as_slice-columns.ensures in
    terms ∙ sym (change_is c.args.def.now earlier change kind none named)
