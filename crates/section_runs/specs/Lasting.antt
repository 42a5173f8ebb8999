-- What a run of blocks over a store comes to, and what a crash leaves of it.
use Rattle.std.specs.Prelude.{◌≡◌, ℕ, List, [], ◌∷◌, ◌++◌, Option, None, Some}
use Rattle.std.specs.List.{AllByRecursion}
use Rattle.disk_core.specs.Moments.{LeavesNow, LeavesOnly}
use Rattle.disk_core.specs.declared.disk.Disk.{Ghosts}
use Rattle.row_types.specs.declared.definition.TableDef.{TableDef}
use Rattle.row_types.specs.declared.block.Block.{Block}
use Rattle.row_types.specs.Tables.{Tables}
use Rattle.plain_model.specs.Blocks.{Said, block_means}
use Rattle.plain_model.specs.declared.reply.Reply.{Reply}
use Rattle.op_log.specs.declared.change.RowChange.{RowChange}
use Rattle.list_store.specs.Keeping.{Keeps, Secures, defs_of, disk_of}
use Rattle.list_store.specs.Log.{MayBeLogged, logged_tables}
use Rattle.list_store.specs.Running.{IsCaused}
use Rattle.list_store.specs.declared.store.ListStore.{ListStore}
use Rattle.section_runs.specs.Trail.{BeginsAmong, Leads, last_of}

-- there are batches that a log may hold and that leave these tables, with which each resource that a reply
-- says to be lacking is used up
abbrev pub IsCausedAt : List TableDef → Tables → List Reply → Type 0
IsCausedAt defs tables replies =
    (batches : List (List RowChange)) × MayBeLogged defs batches × (tables ≡ logged_tables defs batches)
    × AllByRecursion (IsCaused defs batches) replies

-- at each block of a trail this holds, for the tables before it
abbrev pub AreCaused : List TableDef → Tables → List Said → List Tables → Type 0
AreCaused defs tables [] trail = Unit {0}
AreCaused defs tables (said ∷ more) [] = ⊥
AreCaused defs tables (said ∷ more) (next ∷ trail) =
    IsCausedAt defs tables said.replies × AreCaused defs next more trail

-- The tables that may have been on their way to the disk: none where it didn't fail, else those that the
-- block at which it failed leads to.
abbrev pub AreFlying : Option Block → Tables → List Tables → Type 0
AreFlying None last flying = flying ≡ []
AreFlying (Some block) last flying =
    (next : Tables) × (replies : List Reply) × block_means block last replies next × (flying ≡ next ∷ [])

module _ {D : Type 0} (d : Ghosts D) where
  -- Blocks led over this trail from the tables that the store secured: what a crash
  -- at any moment since leaves, and one now.
  pub record Lasts (defs : List TableDef) (tables : Tables) (trail : List Tables) (stopped : Option Block)
      (old new : D) : Type 0 where
    pub flying : List Tables
    pub are : AreFlying stopped (last_of tables trail) flying
    pub moments : LeavesOnly d old new (BeginsAmong defs (tables ∷ (trail ++ flying)))
    pub now : LeavesNow d new (BeginsAmong defs (last_of tables trail ∷ flying))

  -- From these tables on the blocks with replies lead over a trail, and the store has the tables at its end,
  -- unless the disk failed at a block.
  pub record RanFrom (old : ListStore D) (tables : Tables) (said : List Said) (stopped : Option Block)
      (new : ListStore D) : Type 0 where
    pub trail : List Tables
    pub leads : Leads tables said trail
    pub causes : AreCaused (defs_of old) tables said trail
    pub keeps : stopped ≡ None → Keeps d new (last_of tables trail)
    pub secures : Secures d old tables → stopped ≡ None → Secures d new (last_of tables trail)
    pub lasts : Secures d old tables
        → Lasts (defs_of old) tables trail stopped (disk_of old) (disk_of new)

  -- blocks were run over a store, whatever tables it had
  pub record Runs (old : ListStore D) (said : List Said) (stopped : Option Block)
      (new : ListStore D) : Type 0 where
    pub defs : defs_of new ≡ defs_of old
    pub each : (tables : Tables) → Keeps d old tables → RanFrom old tables said stopped new
