use Rattle.std.proofs.Common.{rules}
use Rattle.disk_core.proofs.Images.{write_follows}
use Rattle.disk_core.proofs.memory.MemDiskDisk.write_at.Goals as goal

pub returns-clause-crash : goal.returns-clause-crash
returns-clause-crash c image left =
    let d = c.self.inside in
    rw (← c.self.view_is) (write_follows d.initial.items d.history.calls c.args.at c.args.bytes.now image (search rules) (rw c.keep-2.ensures at left))
