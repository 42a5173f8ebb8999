-- What is known of a store once a block was tried and its batch forced.
use Rattle.std.proofs.Common.{◌≡◌, ◌≢◌, ◌⊎◌, inl, inr, ℕ, ◌+◌, ◌≤◌, ◌^◌, false, List, [], ◌∷◌, ◌++◌, length, map, None, Result, Ok, Err, OnOk, IfErr, refl, sym, ◌∙◌, ap, subst, arith}
use Rattle.std.proofs.lemmas.List.{map-append}
use Rattle.std.specs.List.{AllByRecursion}
use Rattle.row_types.specs.declared.block.Block.{Block}
use Rattle.row_types.specs.declared.definition.TableDef.{TableDef}
use Rattle.row_types.specs.Tables.{Tables}
use Rattle.op_log.specs.Changes.{body_text}
use Rattle.op_log.specs.declared.change.RowChange.{RowChange}
use Rattle.plain_model.specs.Blocks.{block_means}
use Rattle.plain_model.specs.Calls.{Call, is_running}
use Rattle.plain_model.specs.declared.reply.Reply.{Reply}
use Rattle.engine_txn.specs.Tries.{Tries}
use Rattle.engine_txn.specs.declared.tried.Tried.{Tried}
use Rattle.base_types.specs.Causes.{one_more}
use Rattle.disk_core.specs.declared.disk.Disk.{Ghosts}
use Rattle.disk_core.specs.declared.store.FileName.{FileName}
use Rattle.disk_core.specs.Moments.{LeavesNow, LeavesOnly}
use Rattle.disk_core.proofs.Moments.{started, weaker}
use Rattle.lane_format.specs.Crash.{WithOrWithout}
use Rattle.lane_format.specs.Lane.{IsLane}
use Rattle.lane_format.specs.Writer.{Holds, IsFailed, IsNear, IsSettled, KeepsFault, lane_of, stage_of}
use Rattle.lane_format.specs.Writer as lane
use Rattle.lane_format.specs.declared.writer.LaneFault.{LaneFault}
use Rattle.lane_format.specs.declared.writer.LaneFault.TheVariants as fault
use Rattle.lane_format.specs.declared.writer.LaneWriter.{LaneWriter}
use Rattle.lane_format.specs.declared.writer.Stage.TheVariants.{Failed, Open}
use Rattle.call_log.specs.Played.{empty_tables}
use Rattle.call_log.specs.History.{IsHistory, batches_of, bodies_of, gate_behind, last_batch, log_limit, settled, with_batch, with_forced}
use Rattle.call_log.proofs.Histories.{forced_is_history, gate_more}
use Rattle.call_laws.specs.Comings.{Comes, LacksBy, SaidBy, SpentBy, StaysAs}
use Rattle.call_laws.proofs.Comings.{try_comes}
use Rattle.txn_rows.specs.Forces.{Forces}
use Rattle.list_keeper.specs.Past.{IsPast, Told, tables_in}
use Rattle.list_store.specs.Keeping.{Keeps, Secures, batches_in, defs_of, disk_of, gate_of}
use Rattle.list_store.specs.Log.{IsLogOf}
use Rattle.list_store.specs.Running.{Answers, ForcesOne, IsCaused, IsEither, IsUnrun, Stops}
use Rattle.list_store.specs.declared.store.ListStore.{ListStore}
use Rattle.list_store.proofs.Pasts.{batches_push, bodies_push, has_batch, log_of_lane}
use Rattle.list_store.proofs.Storing.{keeps_as, keeps_these, now_too, secures_of, secures_these, settled_as}

-- told of the same tables
pub told_is : (told : Told) (defs : List TableDef) (calls : List Call) → told.defs ≡ defs → told.calls ≡ calls → told ≡ record { defs = defs; calls = calls }
told_is told defs calls defs_are calls_are =
    ap (λ (l : List TableDef). let t : Told = record { defs = l; calls = told.calls } in t) defs_are ∙ ap (λ (l : List Call). let t : Told = record { defs = defs; calls = l } in t) calls_are

-- the calls of a force are those of a keeper too
pub past_forced : (told : Told) → IsPast told → is_running told.calls ≡ false → IsPast (record { defs = told.defs; calls = with_forced told.calls })
past_forced told past idle = record {
  history = forced_is_history told.defs told.calls past.history idle;
  fit = past.fit;
  some = past.some;
  few = past.few;
}

-- a writer that stands at a gate hasn't failed
pub not_failed : {D : Type 0} (w : LaneWriter D) (gate : ℕ) → stage_of w ≡ Open 2 gate → ¬ (IsFailed w)
not_failed w gate stage failed = let both : Open 2 gate ≡ Failed failed.0 = sym stage ∙ failed.1 in cc

-- the causes of replies
caused_all : (defs : List TableDef) (batches : List (List RowChange)) (calls : List Call) (replies : List Reply) → AllByRecursion (LacksBy defs batches) replies → AllByRecursion (SpentBy calls) replies → AllByRecursion (IsCaused defs batches) replies
caused_all defs batches calls [] lacks spent = tt
caused_all defs batches calls (reply ∷ replies) lacks spent = ((lacks.0, λ limit is. (spent.0 limit is).0), caused_all defs batches calls replies lacks.1 spent.1)

spent_forced : (calls : List Call) (replies : List Reply) → AllByRecursion (SpentBy calls) replies → AllByRecursion (SpentBy (with_forced calls)) replies
spent_forced calls [] spent = tt
spent_forced calls (reply ∷ replies) spent = ((λ limit is. let may = spent.0 limit is in (may.0, omega (arith, may.1))), spent_forced calls replies spent.1)

module _ {D : Type 0} (d : Ghosts D) (only_now : (disk : D) (image : List ℕ) → d.left_since disk (d.moment disk) image → d.may_leave disk image)
    (block : Block) (old new : ListStore D) (mid : Told) (replies : List Reply)
    (mid_defs : mid.defs ≡ defs_of old) (past : IsPast mid)
    (said : SaidBy (defs_of old) block old.keeper.calls replies mid.calls)
    (new_defs : defs_of new ≡ mid.defs) (new_calls : new.keeper.calls ≡ with_forced mid.calls) where
  defs_are : defs_of new ≡ defs_of old
  defs_are = new_defs ∙ mid_defs

  batches_are : batches_in new ≡ with_batch (batches_in old) (last_batch mid.calls)
  batches_are = ap batches_of new_calls ∙ said.batches

  next_is : tables_in new.keeper ≡ settled (empty_tables (defs_of old)) mid.calls
  next_is = ap (λ (l : List TableDef). settled (empty_tables l) new.keeper.calls) defs_are ∙ ap (settled (empty_tables (defs_of old))) new_calls

  new_past : IsPast new.keeper
  new_past = subst IsPast (sym (told_is new.keeper mid.defs (with_forced mid.calls) new_defs new_calls)) (past_forced mid past said.ended)

  new_idle : is_running new.keeper.calls ≡ false
  new_idle = ap is_running new_calls

  new_forced : last_batch new.keeper.calls ≡ []
  new_forced = ap last_batch new_calls

  -- each reply has its cause, and the calls of the force are calls too
  all_caused : AllByRecursion (IsCaused (defs_of old) (batches_in old)) replies
  all_caused = caused_all (defs_of old) (batches_in old) mid.calls replies said.causes said.spent

  all_spent : AllByRecursion (SpentBy new.keeper.calls) replies
  all_spent = subst (λ (calls : List Call). AllByRecursion (SpentBy calls) replies) (sym new_calls) (spent_forced mid.calls replies said.spent)

  means_next : (tables : Tables) → Keeps d old tables → block_means block tables replies (tables_in new.keeper)
  means_next tables keeps =
      subst (λ (t : Tables). block_means block t replies (tables_in new.keeper)) (sym keeps.tables_are)
      (subst (λ (t : Tables). block_means block (tables_in old.keeper) replies t) (sym next_is) said.means)

  -- nothing was to be forced
  module _ (none : last_batch mid.calls ≡ []) (writer_is : new.writer ≡ old.writer) where
    same_batches : batches_in new ≡ batches_in old
    same_batches = batches_are ∙ ap (with_batch (batches_in old)) none

    same_disk : disk_of new ≡ disk_of old
    same_disk = ap lane.disk_of writer_is

    keeps_none : (tables : Tables) → Keeps d old tables → Keeps d new (tables_in new.keeper)
    keeps_none tables keeps =
        keeps_as d new (defs_of old) (batches_in old) defs_are same_batches new_past new_idle new_forced (ap lane_of writer_is ∙ keeps.lane) (ap stage_of writer_is ∙ keeps.stage)
        (subst (λ (w : LaneWriter D). Holds d w 2 (bodies_of (defs_of old) (batches_in old))) (sym writer_is) keeps.file)

    secures_none : (tables : Tables) → Secures d old tables → Secures d new (tables_in new.keeper)
    secures_none tables secures =
        secures_of d new (keeps_none tables secures.keeps)
        (settled_as d new (defs_of old) (batches_in old) defs_are same_batches (subst (λ (w : LaneWriter D). IsSettled d w 2 (bodies_of (defs_of old) (batches_in old))) (sym writer_is) secures.settled))

    moments_none : (tables : Tables) → Secures d old tables → LeavesOnly d (disk_of old) (disk_of new) (IsEither (defs_of old) tables (tables_in new.keeper))
    moments_none tables secures =
        let P = IsEither (defs_of old) tables (tables_in new.keeper) in
        subst (λ (x : D). LeavesOnly d (disk_of old) x P) (sym same_disk)
        (started d (disk_of old) P (λ image left. inl (secures.crash.each image (only_now (disk_of old) image left))))

    pub answers_none : Answers d block old replies new
    answers_none = record {
      defs = defs_are;
      means = λ tables keeps. (tables_in new.keeper, keeps_none tables keeps, means_next tables keeps);
      secures = λ tables secures. (tables_in new.keeper, secures_none tables secures, means_next tables secures.keeps, moments_none tables secures);
      causes = all_caused;
      spent = all_spent;
      forces = inl (same_batches, same_disk);
      faults = ap d.faults same_disk;
    }

  -- a batch was forced
  module _ (some : last_batch mid.calls ≢ []) where
    -- the log with the batch or without it
    either_log : (tables : Tables) → Keeps d old tables → (image : List ℕ) → WithOrWithout 2 (lane_of old.writer) (bodies_of (defs_of old) (batches_in old)) (body_text (defs_of old) (last_batch mid.calls)) image
        → IsEither (defs_of old) tables (tables_in new.keeper) image
    either_log tables keeps image (inl is) =
        inl (subst (λ (t : Tables). IsLogOf (defs_of old) t image) (sym keeps.tables_are)
        (log_of_lane old.keeper keeps.past image (subst (λ (n : ℕ). IsLane 2 n (bodies_of (defs_of old) (batches_in old)) image) keeps.lane is)))
    either_log tables keeps image (inr is) =
        let zero : IsLane 2 0 (bodies_of (defs_of old) (batches_in old) ++ body_text (defs_of old) (last_batch mid.calls) ∷ []) image =
        subst (λ (n : ℕ). IsLane 2 n (bodies_of (defs_of old) (batches_in old) ++ body_text (defs_of old) (last_batch mid.calls) ∷ []) image) keeps.lane is in
        let pushed : IsLane 2 0 (bodies_of (defs_of old) (with_batch (batches_in old) (last_batch mid.calls))) image = subst (λ (l : List (List ℕ)). IsLane 2 0 l image) (bodies_push (defs_of old) (batches_in old) (last_batch mid.calls) some) zero in
        let there : IsLane 2 0 (bodies_of (defs_of old) (batches_in new)) image = subst (λ (l : List (List RowChange)). IsLane 2 0 (bodies_of (defs_of old) l) image) (sym batches_are) pushed in
        let there' : IsLane 2 0 (bodies_of (defs_of new) (batches_in new)) image = subst (λ (l : List TableDef). IsLane 2 0 (bodies_of l (batches_in new)) image) (sym defs_are) there in
        inr (subst (λ (l : List TableDef). IsLogOf l (tables_in new.keeper) image) defs_are (log_of_lane new.keeper new_past image there'))

    module _ (result : Result (Unit {0}) LaneFault) (forces : Forces d (body_text (defs_of old) (last_batch mid.calls)) old.writer new.writer result) where
      moments_some : (tables : Tables) → Secures d old tables → LeavesOnly d (disk_of old) (disk_of new) (IsEither (defs_of old) tables (tables_in new.keeper))
      moments_some tables secures =
          weaker d (disk_of old) (disk_of new) (WithOrWithout 2 (lane_of old.writer) (bodies_of (defs_of old) (batches_in old)) (body_text (defs_of old) (last_batch mid.calls))) (IsEither (defs_of old) tables (tables_in new.keeper))
          (either_log tables secures.keeps) (forces.moments 2 (bodies_of (defs_of old) (batches_in old)) secures.settled)

      now_some : (tables : Tables) → Secures d old tables → LeavesNow d (disk_of new) (IsEither (defs_of old) tables (tables_in new.keeper))
      now_some tables secures =
          now_too d (disk_of new) (WithOrWithout 2 (lane_of old.writer) (bodies_of (defs_of old) (batches_in old)) (body_text (defs_of old) (last_batch mid.calls))) (IsEither (defs_of old) tables (tables_in new.keeper))
          (either_log tables secures.keeps) (forces.crash 2 (bodies_of (defs_of old) (batches_in old)) secures.settled)

    module _ (forces : Forces d (body_text (defs_of old) (last_batch mid.calls)) old.writer new.writer (Ok tt)) where
      keeps_some : (tables : Tables) → Keeps d old tables → Keeps d new (tables_in new.keeper)
      keeps_some tables keeps =
          let gate = gate_of old in
          let stage : stage_of new.writer ≡ Open 2 (gate_behind (defs_of old) (with_batch (batches_in old) (last_batch mid.calls))) =
          forces.stage 2 gate keeps.stage ∙ ap (Open 2) (omega (arith, gate_more (defs_of old) (batches_in old) (last_batch mid.calls) some)) in
          keeps_as d new (defs_of old) (with_batch (batches_in old) (last_batch mid.calls)) defs_are batches_are new_past new_idle new_forced (forces.fault.lane ∙ keeps.lane) stage
          (subst (λ (l : List (List ℕ)). Holds d new.writer 2 l) (bodies_push (defs_of old) (batches_in old) (last_batch mid.calls) some) (forces.appended 2 (bodies_of (defs_of old) (batches_in old)) keeps.file))

      secures_some : (tables : Tables) → Secures d old tables → Secures d new (tables_in new.keeper)
      secures_some tables secures =
          secures_of d new (keeps_some tables secures.keeps)
          (settled_as d new (defs_of old) (with_batch (batches_in old) (last_batch mid.calls)) defs_are batches_are
          (subst (λ (l : List (List ℕ)). IsSettled d new.writer 2 l) (bodies_push (defs_of old) (batches_in old) (last_batch mid.calls) some) (forces.durable 2 (bodies_of (defs_of old) (batches_in old)) secures.settled)))

      pub answers_some : (tables : Tables) → Keeps d old tables → Answers d block old replies new
      answers_some kept keeps = record {
        defs = defs_are;
        means = λ tables keeps. (tables_in new.keeper, keeps_some tables keeps, means_next tables keeps);
        secures = λ tables secures. (tables_in new.keeper, secures_some tables secures, means_next tables secures.keeps, moments_some (Ok tt) forces tables secures);
        causes = all_caused;
        spent = all_spent;
        forces = inr (last_batch mid.calls, batches_are ∙ batches_push (batches_in old) (last_batch mid.calls) some, forces.calls 2 (gate_of old) keeps.stage (not_failed old.writer (gate_of old) keeps.stage));
        faults = forces.fault.still;
      }

    pub stops_some : (tables : Tables) → Keeps d old tables → (why : LaneFault) → Forces d (body_text (defs_of old) (last_batch mid.calls)) old.writer new.writer (Err why) → Stops d block old new
    stops_some kept keeps why forces = record {
      defs = defs_are;
      faults = faults_rose why forces;
      leaves = λ tables secures. (tables_in new.keeper, replies, means_next tables secures.keeps, moments_some (Err why) forces tables secures, now_some (Err why) forces tables secures);
    }
      where
        faults_rose : (why : LaneFault) → Forces d (body_text (defs_of old) (last_batch mid.calls)) old.writer new.writer (Err why) → d.faults (disk_of new) ≡ one_more (d.faults (disk_of old))
        faults_rose (fault.Disk file) forces = (forces.fault.disk file refl).1
        faults_rose (fault.Closed file) forces = absurd (not_failed old.writer (gate_of old) keeps.stage (file, (forces.fault.closed file).0 refl))

  -- what the force of a batch, or of none, has come to
  pub answered : (tables : Tables) → Keeps d old tables → (last_batch mid.calls ≡ [] → new.writer ≡ old.writer) → (last_batch mid.calls ≢ [] → Forces d (body_text mid.defs (last_batch mid.calls)) old.writer new.writer (Ok tt)) → Answers d block old replies new
  answered tables keeps none forced = elim (has_batch (last_batch mid.calls)) [
    | inl is ↦ answers_none is (none is)
    | inr some ↦ answers_some some (subst (λ (l : List TableDef). Forces d (body_text l (last_batch mid.calls)) old.writer new.writer (Ok tt)) mid_defs (forced some)) tables keeps
  ]

  pub stopped : (tables : Tables) → Keeps d old tables → (why : LaneFault) → ¬ (last_batch mid.calls ≡ []) → Forces d (body_text mid.defs (last_batch mid.calls)) old.writer new.writer (Err why) → Stops d block old new
  stopped tables keeps why some forced =
      stops_some some tables keeps why (subst (λ (l : List TableDef). Forces d (body_text l (last_batch mid.calls)) old.writer new.writer (Err why)) mid_defs forced)

-- ---- where nothing came of a try

module _ {D : Type 0} (d : Ghosts D) (old new : ListStore D) (writer_is : new.writer ≡ old.writer) (defs_are : defs_of new ≡ defs_of old) (past : IsPast new.keeper)
    (stays : StaysAs (defs_of old) old.keeper.calls new.keeper.calls) where
  same_tables : (tables : Tables) → Keeps d old tables → tables ≡ tables_in new.keeper
  same_tables tables keeps =
      keeps.tables_are ∙ sym stays.settled_is ∙ ap (λ (l : List TableDef). settled (empty_tables l) new.keeper.calls) (sym defs_are)

  keeps_on : (tables : Tables) → Keeps d old tables → Keeps d new (tables_in new.keeper)
  keeps_on tables keeps =
      keeps_as d new (defs_of old) (batches_in old) defs_are stays.batches past stays.ended stays.none (ap lane_of writer_is ∙ keeps.lane) (ap stage_of writer_is ∙ keeps.stage)
      (subst (λ (w : LaneWriter D). Holds d w 2 (bodies_of (defs_of old) (batches_in old))) (sym writer_is) keeps.file)

  secures_on : (tables : Tables) → Secures d old tables → Secures d new (tables_in new.keeper)
  secures_on tables secures =
      secures_of d new (keeps_on tables secures.keeps)
      (settled_as d new (defs_of old) (batches_in old) defs_are stays.batches (subst (λ (w : LaneWriter D). IsSettled d w 2 (bodies_of (defs_of old) (batches_in old))) (sym writer_is) secures.settled))

  pub unrun : IsUnrun d old new
  unrun = record {
    defs = defs_are;
    keeps = λ tables keeps. keeps_these d new tables (same_tables tables keeps) (keeps_on tables keeps);
    secures = λ tables secures. secures_these d new tables (same_tables tables secures.keeps) (secures_on tables secures);
    disk = ap lane.disk_of writer_is;
  }
