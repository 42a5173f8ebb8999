use Rattle.std.proofs.Common.{◌≤◌, subst, arith}
use Rattle.row_types.specs.Slot.{slot_len}
use Rattle.row_types.specs.Schema.{columns_at}
use Rattle.row_types.specs.Reading.{read_slot, IsUnlessMemory}
use Rattle.row_types.proofs.SlotLaws.{row_is, again_is, none_is}
use Rattle.row_types.proofs.schema.Schema.decode.Goals as goal

pub returns-clause-row : goal.returns-clause-row
returns-clause-row c =
    let columns = columns_at c.args.self.now c.args.table in
    let due = subst (λ cs. IsUnlessMemory c.read_slot.result (read_slot cs c.args.slot.now)) c.columns.ensures.value c.read_slot.ensures in
    row_is columns c.args.slot.now c.read_slot.result due c.requires.whole (λ i. omega (arith, c.type_inv.slot i))

pub returns-clause-only : goal.returns-clause-only
returns-clause-only c =
    let columns = columns_at c.args.self.now c.args.table in
    let due = subst (λ cs. IsUnlessMemory c.read_slot.result (read_slot cs c.args.slot.now)) c.columns.ensures.value c.read_slot.ensures in
    let narrow : slot_len columns ≤ 4096 = rw (← c.columns.ensures.value) c.columns.ensures.narrow in
    again_is columns c.args.slot.now c.read_slot.result due narrow

pub returns-clause-empty : goal.returns-clause-empty
returns-clause-empty c =
    let columns = columns_at c.args.self.now c.args.table in
    let due = subst (λ cs. IsUnlessMemory c.read_slot.result (read_slot cs c.args.slot.now)) c.columns.ensures.value c.read_slot.ensures in
    none_is columns c.args.slot.now c.read_slot.result due c.requires.whole
