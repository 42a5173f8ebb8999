-- How the opening of a log file ends.
use Rattle.std.specs.Prelude.{◌≡◌, ◌⊎◌, ℕ, List}
use Rattle.std.specs.Option.{ForSome}
use Rattle.row_types.specs.declared.definition.TableDef.{TableDef}
use Rattle.row_types.specs.Tables.{Tables}
use Rattle.base_types.specs.Causes.{one_more}
use Rattle.disk_core.specs.declared.disk.Disk.{Ghosts}
use Rattle.disk_core.specs.Moments.{LeavesOnly, OnlyReads}
use Rattle.lane_format.specs.Lane.{IsNotOpen}
use Rattle.lane_format.specs.Writer.{even_file}
use Rattle.call_log.specs.Played.{empty_tables}
use Rattle.list_store.specs.Keeping.{IsQuiet, Keeps, Secures, defs_of, disk_of}
use Rattle.list_store.specs.Log.{BeginsWith, DamagedAt, log_reads}
use Rattle.list_store.specs.declared.store.ListStore.{ListStore}
use Rattle.list_store.specs.declared.fault.OpenFault.{OpenFault}
use Rattle.list_store.specs.declared.fault.OpenFault.TheVariants.{Disk, Damaged, OutOfMemory}

-- A crash while a file of these bytes is opened leaves it as it was, or, where it
-- wasn't open, one that begins with empty tables.
abbrev pub LeftByOpening : List TableDef → List ℕ → List ℕ → Type 0
LeftByOpening defs bytes image =
    (image ≡ bytes) ⊎ (IsNotOpen bytes × BeginsWith defs (empty_tables defs) image)

module _ {D : Type 0} (d : Ghosts D) where
  -- the disk was only read, and no call failed
  pub record IsUnchanged (old new : D) : Type 0 where
    pub only_reads : OnlyReads d old new
    pub faults : d.faults new ≡ d.faults old

  -- A store was opened, and has the tables that it begins with over the file.
  pub record Opens (defs : List TableDef) (old : D) (store : ListStore D) : Type 0 where
    pub tables : Tables
    pub defs_are : defs_of store ≡ defs
    pub keeps : Keeps d store tables
    pub entry : ForSome (d.content old) (BeginsWith defs tables)
    pub faults : d.faults (disk_of store) ≡ d.faults old
    -- where nothing was pending
    pub secures : (bytes : List ℕ) → IsQuiet d old bytes → Secures d store tables
    pub moments : (bytes : List ℕ) → IsQuiet d old bytes
        → LeavesOnly d old (disk_of store) (LeftByOpening defs bytes)

  -- none was opened: the file is damaged at that place or memory ran
  -- out, and the disk is unchanged; or a call of the disk failed
  abbrev pub CannotOpen : List TableDef → D → OpenFault → D → Type 0
  CannotOpen defs old (Damaged file at) new = (file ≡ even_file 0)
      × ForSome (d.content old) (λ bytes. log_reads defs bytes (DamagedAt at)) × IsUnchanged old new
  CannotOpen defs old OutOfMemory new = IsUnchanged old new
  CannotOpen defs old (Disk file) new =
      (file ≡ even_file 0) × (d.faults new ≡ one_more (d.faults old))
      × ((bytes : List ℕ) → IsQuiet d old bytes → LeavesOnly d old new (LeftByOpening defs bytes))
