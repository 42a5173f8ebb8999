use Rattle.std.proofs.Common.{◌≡◌, take, arith}
use Rattle.std.specs.Int.{w16, from_le_bytes}
use Rattle.std.proofs.lemmas.Grind.{common_steps}
use Rattle.row_types.proofs.Cells.{cell_fault_behind, cell_fault_text}
use Rattle.row_types.proofs.slot.cell_fault.Goals as goal

pub returns-in-Ok : goal.returns-in-Ok
returns-in-Ok c =
    let len = c.from_le_bytes-len.result in
    let bytes = c.args.bytes.now in
    let is : len ≡ from_le_bytes w16 (take 2 bytes) = grind (arith, common_steps) in
    let e = cell_fault_behind c.args.at c.in-Text.limit len bytes is (omega arith) (grind (arith, common_steps, c.in-Ok.ensures.cases.1)) in
    grind (arith, common_steps, e)

pub returns-in-Err : goal.returns-in-Err
returns-in-Err c =
    let len = c.from_le_bytes-len.result in
    let bytes = c.args.bytes.now in
    let is : len ≡ from_le_bytes w16 (take 2 bytes) = grind (arith, common_steps) in
    let e = cell_fault_text c.args.at c.in-Text.limit len bytes is (omega arith) (λ utf8. c.in-Err.ensures.cases.0 (grind (arith, common_steps, utf8))) in
    grind (arith, common_steps, e)
