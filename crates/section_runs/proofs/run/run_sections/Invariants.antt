use Rattle.std.proofs.Common.{◌≡◌, ◌≤◌, map, length, vec_len, vec_capacity}
use Rattle.std.specs.List.{AllByRecursion}
use Rattle.list_store.specs.Keeping.{disk_of}
use Rattle.section_runs.specs.Lasting.{Runs}
use Rattle.section_runs.specs.Sections.{AreStopped, FailsAt, IsAnswered, all_said, faults_after, halt_of, stopped_in}
use Rattle.section_runs.proofs.run.run_sections.Given as goal

abbrev pub invariant-loop-section : goal.invariant-loop-section
invariant-loop-section g l =
    (goal.iterator-loop-section g).can_next l.section-iterator × (goal.iterator-loop-section g).is_finite l.section-iterator
    × (map (λ run. run.section) l.runs.items ≡ l.yielded)
    × (l.halt ≡ halt_of l.runs.items)
    × AllByRecursion IsAnswered l.runs.items
    × AreStopped l.runs.items
    × (g.D.Disk.faults (disk_of l.store) ≡ faults_after l.halt (g.D.Disk.faults (disk_of l.fn.store)))
    × Runs g.D.Disk l.fn.store (all_said l.runs.items) (stopped_in l.runs.items) l.store
    × FailsAt l.halt (stopped_in l.runs.items)
    × (vec_len l.runs ≡ length l.yielded)
    × (vec_len l.fn.sections ≤ vec_capacity l.runs)
