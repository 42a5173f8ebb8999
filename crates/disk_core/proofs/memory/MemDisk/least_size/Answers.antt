use Rattle.std.proofs.Common.{sym, subst}
use Rattle.disk_core.specs.Memory.{CrashLeaves}
use Rattle.disk_core.proofs.Places.{synced_within, is_image}
use Rattle.disk_core.proofs.memory.MemDisk.least_size.Goals as goal

pub returns-clause-most : goal.returns-clause-most
returns-clause-most c =
    let d = c.self.inside in
    rw (← c.self.view_is, c.as_slice.ensures.value, c.self.invariant.synced) (synced_within d.initial.items d.history.calls c.self.invariant.inside)

pub returns-clause-each_image : goal.returns-clause-each_image
returns-clause-each_image c image left =
    let d = c.self.inside in
    let is = is_image d.initial.items d.history.calls c.self.invariant.inside image (subst (λ s. CrashLeaves s image) (sym c.self.view_is) left) in
    rw (← c.self.view_is, c.as_slice.ensures.value, c.self.invariant.synced) (is.no_shorter, is.no_longer)
