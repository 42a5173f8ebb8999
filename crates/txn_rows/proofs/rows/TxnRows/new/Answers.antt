use Rattle.std.proofs.Common.{List, length, ap, ◌∙◌, arith}
use Rattle.row_types.specs.declared.definition.TableDef.{TableDef}
use Rattle.txn_rows.proofs.Ends.{idle_empty}
use Rattle.txn_rows.proofs.rows.TxnRows.new.Goals as goal

pub returns-clause-idle : goal.returns-clause-idle
returns-clause-idle c =
    let len = c.in_ok-resize.ensures.len in
    let ok = c.resize.new.self.ok in
    idle_empty c.args.schema c.in_ok-lists.lists.items c.new.result.steps.items c.resize.new.self.items c.tables.ensures.schema c.in_ok-lists.ensures.0 (c.in_ok-lists.ensures.1 ∙ ap (λ (ds : List TableDef). length ds) c.tables.ensures.value) c.new.ensures (omega arith)
