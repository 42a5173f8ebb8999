use Rattle.std.proofs.Common.{take}
use Rattle.std.specs.List.{AllByRecursion}
use Rattle.plain_model.specs.CallRows.{IsRowAt}
use Rattle.fake_keeper.proofs.slots.are_at.Given as goal

abbrev pub invariant-loop-row : goal.invariant-loop-row
invariant-loop-row l = AllByRecursion (IsRowAt l.schema l.table l.lo.number l.hi.number) (take l.row-index l.rows)
