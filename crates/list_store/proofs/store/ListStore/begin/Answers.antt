use Rattle.std.proofs.Common.{[], IsSome, refl, sym, ◌∙◌, ap, subst}
use Rattle.disk_core.specs.Moments.{LeavesOnly}
use Rattle.lane_format.specs.Writer as lane
use Rattle.call_log.specs.Played.{empty_tables}
use Rattle.list_store.specs.Faults.{OldOrEmpty}
use Rattle.list_store.specs.declared.store.ListStore.{ListStore}
use Rattle.list_store.proofs.Storing.{keeps_as, keeps_these, secures_of, secures_these, settled_as, tables_of_none}
use Rattle.list_store.proofs.store.ListStore.begin.Goals as goal

pub returns-in-Ok-clause-begun : goal.returns-in-Ok-clause-begun
returns-in-Ok-clause-begun g c =
    let d = g.D.Disk in
    let keeper = c.args.keeper in
    let read = c.requires.read in
    let store : ListStore g.row.D.Denot = record { alloc = c.args.alloc; keeper = keeper; writer = c.make_empty.new.writer } in
    let empty = c.in-Ok.ensures.empty in
    let keeps = keeps_as d store keeper.defs [] refl c.requires.none read.past read.idle read.forced empty.2 empty.1 empty.0 in
    (refl, keeps_these d store (empty_tables keeper.defs) (sym (tables_of_none keeper read.past c.requires.none)) keeps, c.in-Ok.ensures.still ∙ ap d.faults c.adopt-writer.ensures.disk)

pub returns-in-Ok-clause-secures : goal.returns-in-Ok-clause-secures
returns-in-Ok-clause-secures g c = λ told.
    let d = g.D.Disk in
    let keeper = c.args.keeper in
    let read = c.requires.read in
    let store : ListStore g.row.D.Denot = record { alloc = c.args.alloc; keeper = keeper; writer = c.make_empty.new.writer } in
    let empty = c.in-Ok.ensures.empty in
    let keeps = keeps_as d store keeper.defs [] refl c.requires.none read.past read.idle read.forced empty.2 empty.1 empty.0 in
    let told' = subst (λ (x : g.row.D.Denot). IsSome (d.content x)) (sym c.adopt-writer.ensures.disk) told in
    let settled = settled_as d store keeper.defs [] refl c.requires.none (c.in-Ok.ensures.durable told') in (
      secures_these d store (empty_tables keeper.defs) (sym (tables_of_none keeper read.past c.requires.none)) (secures_of d store keeps settled),
      subst (λ (x : g.row.D.Denot). LeavesOnly d x (lane.disk_of c.make_empty.new.writer) (OldOrEmpty d x)) c.adopt-writer.ensures.disk (c.in-Ok.ensures.moments told'),
    )
