use Rattle.std.proofs.Common.{◌∙◌, List, ap, sym, subst}
use Rattle.row_types.specs.declared.definition.TableDef.{TableDef}
use Rattle.row_types.specs.Keys.{row_key}
use Rattle.row_types.specs.Schema.{keys_at}
use Rattle.plain_model.specs.Calls.{MayRead}
use Rattle.plain_model.proofs.CallLaws.{write_reads}
use Rattle.sql_exec.proofs.insert.insert_one.Goals as goal

pub get-requires-clause-locked : goal.get-requires-clause-locked
get-requires-clause-locked g c =
    let calls = g.R.RowCalls.calls c.args.rows.now in
    let row = c.args.row.now in
    let key = row_key (keys_at (g.R.RowCalls.defs c.args.rows.now) c.args.table) row in
    let is = c.key_of-key.ensures ∙ ap (λ (defs : List TableDef). row_key (keys_at defs c.args.table) row) c.schema.ensures in
    subst (λ k. MayRead calls c.args.table k k) (sym is) (write_reads calls c.args.table key key c.requires.can.1)
