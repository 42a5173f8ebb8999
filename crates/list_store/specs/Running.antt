-- What the run of a block makes of a store.
use Rattle.std.specs.Prelude.{◌≡◌, ◌⊎◌, ℕ, List, [], ◌∷◌, ◌++◌, Result, Ok}
use Rattle.std.specs.List.{AllByRecursion}
use Rattle.row_types.specs.declared.block.Block.{Block}
use Rattle.row_types.specs.declared.definition.TableDef.{TableDef}
use Rattle.row_types.specs.Tables.{Tables}
use Rattle.plain_model.specs.Blocks.{block_means}
use Rattle.plain_model.specs.declared.reply.Reply.{Reply}
use Rattle.plain_model.specs.declared.reply.Reply.TheVariants.{Refused}
use Rattle.plain_model.specs.declared.reply.Refusal.TheVariants as refusals
use Rattle.op_log.specs.Changes.{body_text}
use Rattle.op_log.specs.declared.change.RowChange.{RowChange}
use Rattle.base_types.specs.Causes.{one_more}
use Rattle.disk_core.specs.ChangeCalls.{Made}
use Rattle.disk_core.specs.declared.disk.Disk.{Ghosts}
use Rattle.disk_core.specs.Moments.{LeavesNow, LeavesOnly}
use Rattle.lane_format.specs.Lane.{frame_text}
use Rattle.lane_format.specs.Plans.{append_calls}
use Rattle.lane_format.specs.declared.writer.LaneFault.{LaneFault}
use Rattle.call_log.specs.History.{count_limit}
use Rattle.call_laws.specs.Comings.{LacksBy, SpentBy}
use Rattle.list_store.specs.Keeping.{Keeps, Secures, batches_in, defs_of, disk_of, gate_of}
use Rattle.list_store.specs.Log.{IsLogOf}
use Rattle.list_store.specs.declared.store.ListStore.{ListStore}
use Rattle.engine_txn.specs.declared.answer.Answer.{Answer}
use Rattle.engine_txn.specs.declared.answer.Answer.TheVariants.{Said, Stopped, OutOfMemory}

-- what a reply says to be lacking is used up where the log has these batches,
-- and what it says to be spent has the one limit of all that is counted
abbrev pub IsCaused : List TableDef → List (List RowChange) → Reply → Type 0
IsCaused defs batches reply =
    LacksBy defs batches reply × ((limit : ℕ) → reply ≡ Refused (refusals.Spent limit) → limit ≡ count_limit)

-- a call that was done
abbrev pub done : Result (Unit {0}) LaneFault
done = Ok tt

-- the file is a log of these tables or of those
abbrev pub IsEither : List TableDef → Tables → Tables → List ℕ → Type 0
IsEither defs tables next image = IsLogOf defs tables image ⊎ IsLogOf defs next image

module _ {D : Type 0} (d : Ghosts D) where
  -- the log stayed as it was and no call was made of the disk, or one batch went to its end
  abbrev pub ForcesOne : ListStore D → ListStore D → Type 0
  ForcesOne old new =
      ((batches_in new ≡ batches_in old) × (disk_of new ≡ disk_of old))
      ⊎ ((batch : List RowChange) × (batches_in new ≡ batches_in old ++ batch ∷ [])
      × Made (append_calls (gate_of old) (frame_text (body_text (defs_of old) batch))) done
      (d.calls (disk_of old)) (d.calls (disk_of new)))

  -- A block was answered with the replies that it means on the store's tables, and the store has the tables
  -- that it leads to. At each moment a crash leaves a log of the tables from before or of the new ones, and
  -- now of the new ones.
  pub record Answers (block : Block) (old : ListStore D) (replies : List Reply)
      (new : ListStore D) : Type 0 where
    pub defs : defs_of new ≡ defs_of old
    pub means : (tables : Tables) → Keeps d old tables
        → (next : Tables) × Keeps d new next × block_means block tables replies next
    pub secures : (tables : Tables) → Secures d old tables
        → (next : Tables) × Secures d new next × block_means block tables replies next
        × LeavesOnly d (disk_of old) (disk_of new) (IsEither (defs_of old) tables next)
    pub causes : AllByRecursion (IsCaused (defs_of old) (batches_in old)) replies
    pub spent : AllByRecursion (SpentBy new.keeper.calls) replies
    pub forces : ForcesOne old new
    pub faults : d.faults (disk_of new) ≡ d.faults (disk_of old)

  -- A call of the disk failed. There are tables that the block means, with replies to it, and at each moment,
  -- and now, a crash leaves the log of the tables from before or of these.
  pub record Stops (block : Block) (old new : ListStore D) : Type 0 where
    pub defs : defs_of new ≡ defs_of old
    pub faults : d.faults (disk_of new) ≡ one_more (d.faults (disk_of old))
    pub leaves : (tables : Tables) → Secures d old tables
        → (next : Tables) × (replies : List Reply) × block_means block tables replies next
        × LeavesOnly d (disk_of old) (disk_of new) (IsEither (defs_of old) tables next)
        × LeavesNow d (disk_of new) (IsEither (defs_of old) tables next)

  -- Memory ran out: the store has the tables from before, and no call was made of the disk.
  pub record IsUnrun (old new : ListStore D) : Type 0 where
    pub defs : defs_of new ≡ defs_of old
    pub keeps : (tables : Tables) → Keeps d old tables → Keeps d new tables
    pub secures : (tables : Tables) → Secures d old tables → Secures d new tables
    pub disk : disk_of new ≡ disk_of old

  -- a block was run, by its answer
  abbrev pub Ran : Block → ListStore D → Answer → ListStore D → Type 0
  Ran block old (Said replies) new = Answers block old replies new
  Ran block old Stopped new = Stops block old new
  Ran block old OutOfMemory new = IsUnrun old new
