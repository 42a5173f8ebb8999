use Rattle.std.proofs.Common.{◌≡◌, take, length}
use Rattle.replay_core.specs.Deltas.{combined}
use Rattle.replay_core.proofs.restarted.toggle_parts.Given as goal

abbrev pub invariant-loop-part : goal.invariant-loop-part
invariant-loop-part l = record {
  so_far : l.page ≡ combined (take l.part-index l.parts) l.fn.page;
  whole : length l.page.bytes ≡ 4096;
}
