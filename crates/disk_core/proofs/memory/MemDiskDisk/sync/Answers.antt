use Rattle.std.proofs.Common.{arith}
use Rattle.disk_core.proofs.Images.{sync_adds_none}
use Rattle.disk_core.proofs.memory.MemDiskDisk.sync.Goals as goal

pub returns-clause-crash : goal.returns-clause-crash
returns-clause-crash c image left =
    let d = c.self.inside in
    rw (← c.self.view_is) (sync_adds_none d.initial.items d.history.calls image (rw c.keep-2.ensures at left))

pub refill-requires : goal.refill-requires
refill-requires c = omega arith
