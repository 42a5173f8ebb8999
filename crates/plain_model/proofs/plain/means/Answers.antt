use Rattle.std.proofs.Common.{◌≡◌, ◌<◌, List, length, None, ap, sym, subst, ◌∙◌, arith}
use Rattle.std.specs.Prelude.{slice_get, option_and_then, IfNone}
use Rattle.std.proofs.lemmas.List.{length-map}
use Rattle.row_types.specs.declared.definition.TableDef.{TableDef}
use Rattle.row_types.specs.Schema.{table_named}
use Rattle.row_types.specs.Tables.{TableRows, Tables, schema_of}
use Rattle.key_space.specs.Plays.{Rows}
use Rattle.sql_check.specs.Misfits.{misfit, table_of}
use Rattle.sql_check.specs.Valued.{HasValues}
use Rattle.plain_model.specs.declared.reply.Reply.TheVariants as reply
use Rattle.plain_model.specs.Meaning.{acts}
use Rattle.plain_model.proofs.Acting.{means_nothing, means_on, rows_on}
use Rattle.plain_model.proofs.plain.means.Goals as goal

pub with_rows-requires-clause-rows : goal.with_rows-requires-clause-rows
with_rows-requires-clause-rows c =
    let tables = c.args.tables.now in
    let statement = c.args.statement.now in
    let n = c.in-Some-table_number.table in
    let fits : misfit (schema_of tables) statement ≡ None = ap (λ (s : List TableDef). misfit s statement) (sym c.schema.ensures.value) ∙ sym c.misfit.ensures.fault ∙ c.in_default.is in
    let number = ap (λ (s : List TableDef). option_and_then (table_named s) (table_of statement)) (sym c.schema-2.ensures.value) ∙ sym c.table_number.ensures.number ∙ c.in-Some-table_number.is in
    let len : length c.schema-2.result.now ≡ length tables = ap (λ (s : List TableDef). length s) c.schema-2.ensures.value ∙ length-map tables (λ (t : TableRows). t.def) in
    let below : n < length c.schema-2.result.now = c.in-Some-table_number.ensures.inside in
    let inside : n < length tables = omega arith in
    let is = ap (λ (s : List TableDef). slice_get s n) (sym c.schema-in-Some-table_number.ensures.value) ∙ c.table-def.ensures.value in
    let valued : HasValues statement = subst (λ o. IfNone o (HasValues statement)) c.in_default.is c.misfit.ensures.values in
    let e = c.in_ok-reply-in-Some-table_number.ensures ∙ ap (λ (r : Rows). acts c.table-def.result.now statement r) c.rows.ensures in
    rows_on tables statement n c.table-def.result.now fits number inside is c.in_ok-reply-in-Some-table_number.reply c.in_ok-reply-in-Some-table_number.rows.items valued c.schema.ensures.tables e

pub returns-in_ok-copy-in-None-table_number : goal.returns-in_ok-copy-in-None-table_number
returns-in_ok-copy-in-None-table_number c =
    let tables = c.args.tables.now in
    let statement = c.args.statement.now in
    let fits : misfit (schema_of tables) statement ≡ None = ap (λ (s : List TableDef). misfit s statement) (sym c.schema.ensures.value) ∙ sym c.misfit.ensures.fault ∙ c.in_default.is in
    let number = ap (λ (s : List TableDef). option_and_then (table_named s) (table_of statement)) (sym c.schema-2.ensures.value) ∙ sym c.table_number.ensures.number ∙ c.in-None-table_number.is in
    ap (λ (ts : Tables). (reply.Done, ts)) c.in_ok-copy-in-None-table_number.ensures ∙ sym (means_nothing tables statement fits number)

pub returns-in_ok-with_rows-in-Some-table_number : goal.returns-in_ok-with_rows-in-Some-table_number
returns-in_ok-with_rows-in-Some-table_number c =
    let tables = c.args.tables.now in
    let statement = c.args.statement.now in
    let n = c.in-Some-table_number.table in
    let fits : misfit (schema_of tables) statement ≡ None = ap (λ (s : List TableDef). misfit s statement) (sym c.schema.ensures.value) ∙ sym c.misfit.ensures.fault ∙ c.in_default.is in
    let number = ap (λ (s : List TableDef). option_and_then (table_named s) (table_of statement)) (sym c.schema-2.ensures.value) ∙ sym c.table_number.ensures.number ∙ c.in-Some-table_number.is in
    let len : length c.schema-2.result.now ≡ length tables = ap (λ (s : List TableDef). length s) c.schema-2.ensures.value ∙ length-map tables (λ (t : TableRows). t.def) in
    let below : n < length c.schema-2.result.now = c.in-Some-table_number.ensures.inside in
    let inside : n < length tables = omega arith in
    let is = ap (λ (s : List TableDef). slice_get s n) (sym c.schema-in-Some-table_number.ensures.value) ∙ c.table-def.ensures.value in
    let e = c.in_ok-reply-in-Some-table_number.ensures ∙ ap (λ (r : Rows). acts c.table-def.result.now statement r) c.rows.ensures in
    ap (λ (ts : Tables). (c.in_ok-reply-in-Some-table_number.reply, ts)) c.in_ok-with_rows-in-Some-table_number.ensures
    ∙ sym (means_on tables statement n c.table-def.result.now fits number inside is c.in_ok-reply-in-Some-table_number.reply c.in_ok-reply-in-Some-table_number.rows.items e)
