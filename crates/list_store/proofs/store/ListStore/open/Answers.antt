use Rattle.std.proofs.Common.{inl, inr, [], refl, sym, ◌∙◌, ap, subst, List, ℕ}
use Rattle.std.specs.Option.{ForSome}
use Rattle.disk_core.specs.Moments.{LeavesOnly}
use Rattle.row_types.specs.declared.definition.TableDef.{TableDef}
use Rattle.lane_format.specs.Lane.{IsLane, IsNotOpen}
use Rattle.call_log.specs.Played.{empty_tables}
use Rattle.call_log.specs.History.{batches_of, bodies_of}
use Rattle.list_keeper.specs.Past.{tables_in}
use Rattle.list_store.specs.Found.{IsFound}
use Rattle.list_store.specs.Keeping.{disk_of}
use Rattle.list_store.specs.Log.{IsLogOf}
use Rattle.list_store.specs.Opening.{LeftByOpening}
use Rattle.list_store.specs.declared.reading.Found.TheVariants.{Log, NotOpen}
use Rattle.list_store.proofs.Faulting.{both_ok}
use Rattle.list_store.proofs.Pasts.{log_of_lane}
use Rattle.list_store.proofs.Storing.{opened_empty, opened_read, quiet_now, quiet_still, quiet_told}
use Rattle.list_store.proofs.store.ListStore.open.Goals as goal

pub continued-requires-clause-log : goal.continued-requires-clause-log
continued-requires-clause-log g c = λ bytes known.
    let d = g.D.Disk in
    let defs = c.args.schema.now in
    let keeper = c.in-Ok-Log.keeper in
    let found : IsFound defs (d.content c.args.disk) (Log keeper c.in-Ok-Log.gate) = subst (IsFound defs (d.content c.args.disk)) c.in-Ok-Log.field-0-is c.in-Ok-Log.ensures.found in
    subst (λ (l : List TableDef). IsLane 2 0 (bodies_of l (batches_of keeper.calls)) bytes) (sym found.0.defs_are) (found.1 bytes (sym c.read_log.ensures.only_reads.same ∙ known))

pub returns-in-Ok-Log-clause-opened : goal.returns-in-Ok-Log-clause-opened
returns-in-Ok-Log-clause-opened g c =
    let d = g.D.Disk in
    let disk = c.args.disk in
    let mid = c.read_log.new.disk in
    let reads = c.read_log.ensures.only_reads in
    let defs = c.args.schema.now in
    let keeper = c.in-Ok-Log.keeper in
    let found : IsFound defs (d.content disk) (Log keeper c.in-Ok-Log.gate) = subst (IsFound defs (d.content disk)) c.in-Ok-Log.field-0-is c.in-Ok-Log.ensures.found in
    let lane : ForSome (d.content disk) (IsLane 2 0 (bodies_of keeper.defs (batches_of keeper.calls))) =
    λ bytes known. subst (λ (l : List TableDef). IsLane 2 0 (bodies_of l (batches_of keeper.calls)) bytes) (sym found.0.defs_are) (found.1 bytes known) in
    record {
      tables = tables_in keeper;
      defs_are = c.continued.ensures.defs ∙ found.0.defs_are;
      keeps = c.continued.ensures.keeps;
      entry = λ bytes known. inl (subst (λ (l : List TableDef). IsLogOf l (tables_in keeper) bytes) found.0.defs_are (log_of_lane keeper found.0.past bytes (lane bytes known)));
      faults = ap d.faults c.continued.ensures.disk ∙ c.read_log.ensures.still (λ file e. let both = sym c.in-Ok-Log.is ∙ e in cc);
      secures = λ bytes quiet.
          c.continued.ensures.secures (quiet_now d mid bytes (IsLane 2 0 (bodies_of keeper.defs (batches_of keeper.calls))) (quiet_still d disk mid mid bytes quiet reads) (lane bytes quiet.0));
      moments = λ bytes quiet. subst (λ (x : g.row.D.Denot). LeavesOnly d disk x (LeftByOpening defs bytes)) (sym c.continued.ensures.disk) (opened_read d disk mid bytes quiet reads defs);
    }

pub returns-in-Ok-NotOpen-clause-opened : goal.returns-in-Ok-NotOpen-clause-opened
returns-in-Ok-NotOpen-clause-opened g c =
    let d = g.D.Disk in
    let disk = c.args.disk in
    let mid = c.read_log.new.disk in
    let reads = c.read_log.ensures.only_reads in
    let defs = c.args.schema.now in
    let keeper = c.in-Ok-NotOpen.keeper in
    let found : IsFound defs (d.content disk) (NotOpen keeper) = subst (IsFound defs (d.content disk)) c.in-Ok-NotOpen.field-0-is c.in-Ok-NotOpen.ensures.found in
    both_ok _ _ _ c.begin.result (λ store begun secures. record {
      tables = empty_tables keeper.defs;
      defs_are = begun.0 ∙ found.0.defs_are;
      keeps = begun.1;
      entry = λ bytes known. inr (found.2 bytes known, ap empty_tables found.0.defs_are);
      faults = begun.2 ∙ c.read_log.ensures.still (λ file e. let both = sym c.in-Ok-NotOpen.is ∙ e in cc);
      secures = λ bytes quiet. (secures (quiet_told d mid bytes (quiet_still d disk mid mid bytes quiet reads))).0;
      moments = λ bytes quiet. opened_empty d disk mid (disk_of store) bytes quiet reads defs (found.2 bytes quiet.0) (secures (quiet_told d mid bytes (quiet_still d disk mid mid bytes quiet reads))).1;
    }) c.begin.ensures.begun c.begin.ensures.secures
