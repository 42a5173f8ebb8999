use Rattle.std.proofs.Common.{◌≡◌, subst, arith}
use Rattle.std.specs.Prelude.{IfOk}
use Rattle.row_types.specs.Schema.{columns_at}
use Rattle.row_types.specs.Reading.{slot_value}
use Rattle.row_types.proofs.CheckedSlots.{checked_rows}
use Rattle.row_types.proofs.schema.Schema.decode_checked.Goals as goal

pub returns-clause-row : goal.returns-clause-row
returns-clause-row c =
    let columns = columns_at c.args.self.now c.args.table in
    let held = subst (λ cs. IfOk c.checked_slot.result (λ found. found ≡ slot_value cs c.args.slot.now)) c.columns.ensures.value c.checked_slot.ensures in
    checked_rows columns c.args.slot.now c.checked_slot.result c.requires.whole (λ i. omega (arith, c.type_inv.slot i)) c.requires.sound held
