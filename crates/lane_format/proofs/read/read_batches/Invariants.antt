use Rattle.std.proofs.Common.{◌≡◌, ◌-◌, ◌≤◌}
use Rattle.std.specs.Option.{ForSome}
use Rattle.disk_core.specs.Moments.{OnlyReads}
use Rattle.lane_format.specs.Batches.{ReadTo}
use Rattle.lane_format.specs.Windows.{IsWindow}
use Rattle.lane_format.proofs.read.read_batches.Given as goal

abbrev pub invariant-loop-batches : goal.invariant-loop-batches
invariant-loop-batches g l = record {
  only_reads : OnlyReads g.D.Disk l.fn.disk l.disk;
  still : g.D.Disk.faults l.disk ≡ g.D.Disk.faults l.fn.disk;
  inside : l.gate ≤ l.size;
  window : IsWindow (g.D.Disk.content l.disk) l.window;
  so_far : ForSome (g.D.Disk.content l.fn.disk) (λ bytes. ReadTo bytes l.batches.items l.gate);
}

abbrev pub decreases-loop-batches : goal.decreases-loop-batches
decreases-loop-batches g l = l.size - l.gate
