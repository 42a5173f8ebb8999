use Rattle.std.proofs.Common.{rules, ◌≡◌, List, [], Option, None, slice_get, length, sym, ap, subst}
use Rattle.disk_core.specs.declared.disk.Disk.{Ghosts}
use Rattle.row_types.specs.declared.block.Block.{Block}
use Rattle.plain_model.specs.Blocks.{Said}
use Rattle.list_store.specs.declared.store.ListStore.{ListStore}
use Rattle.section_runs.specs.declared.section.SectionRun.{SectionRun}
use Rattle.section_runs.specs.declared.section.Halt.{Halt}
use Rattle.section_runs.specs.Lasting.{Runs}
use Rattle.section_runs.specs.Sections.{block_at, said_by, stopped_by, to_run}
use Rattle.section_runs.proofs.RunLaws.{nothing_run}
use Rattle.section_runs.proofs.SectionLaws.{fails_there, unrun_said}
use Rattle.section_runs.proofs.run.run_section.Goals as goal

module _ {D : Type 0} (d : Ghosts D) (store : ListStore D) (run : SectionRun) where
  -- a section of which no block is run, and at which the disk didn't fail
  none_run : Runs d store [] None store → run.said ≡ [] → stopped_by run ≡ None → Runs d store (said_by run) (stopped_by run) store
  none_run nothing none isnt =
      subst (λ (o : Option Block). Runs d store (said_by run) o store) (sym isnt)
      (subst (λ (l : List Said). Runs d store l None store) (sym (unrun_said run none)) nothing)

pub returns-in_default-clause-runs : goal.returns-in_default-clause-runs
returns-in_default-clause-runs g c =
    let run = c.unrun-in_default.result in
    none_run g.D.Disk c.args.store.now run (nothing_run g.D.Disk g.met.D.Disk.only_now c.args.store.now) c.unrun-in_default.ensures.said
    (ap (λ (h : Halt). block_at h (slice_get (to_run run.section) (length run.said)) None) c.unrun-in_default.ensures.halt)

pub returns-then-is_empty-clause-runs : goal.returns-then-is_empty-clause-runs
returns-then-is_empty-clause-runs g c =
    let run = c.unrun.result in
    none_run g.D.Disk c.args.store.now run (nothing_run g.D.Disk g.met.D.Disk.only_now c.args.store.now) c.unrun.ensures.said
    (ap (λ (h : Halt). block_at h (slice_get (to_run run.section) (length run.said)) None) c.unrun.ensures.halt)

pub returns-clause-failed : goal.returns-clause-failed
returns-clause-failed g c =
    fails_there c.run_blocks-halt.result (to_run c.args.section) (length c.from_vec.result) (λ isnt. let short = c.run_blocks-halt.ensures.short isnt in search (rules, short, c.from_vec.ensures, c.to_run-blocks.ensures))
