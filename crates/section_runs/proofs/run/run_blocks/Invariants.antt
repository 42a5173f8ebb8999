use Rattle.std.proofs.Common.{◌≡◌, ◌≤◌, length, None, vec_len, vec_capacity}
use Rattle.list_store.specs.Keeping.{disk_of}
use Rattle.section_runs.specs.Lasting.{Runs}
use Rattle.section_runs.specs.Sections.{with_replies}
use Rattle.section_runs.proofs.run.run_blocks.Given as goal

abbrev pub invariant-loop-block : goal.invariant-loop-block
invariant-loop-block g l =
    (vec_len l.said ≡ l.block-index) × (length l.blocks ≤ vec_capacity l.said)
    × (g.D.Disk.faults (disk_of l.store) ≡ g.D.Disk.faults (disk_of l.fn.store))
    × Runs g.D.Disk l.fn.store (with_replies l.blocks l.said.items) None l.store
