-- How a run of a script over the log file ends, what it shows and why, and what a crash leaves of it.
use Rattle.std.specs.Prelude.{◌≡◌, ◌⊎◌, ℕ, List, ◌∷◌, ◌++◌, map, Option, None, Some}
use Rattle.std.specs.List.{AllByRecursion}
use Rattle.std.specs.Option.{ForSome}
use Rattle.disk_core.specs.Moments.{LeavesNow, LeavesOnly}
use Rattle.disk_core.specs.declared.disk.Disk.{Ghosts}
use Rattle.lane_format.specs.Writer.{even_file}
use Rattle.row_types.specs.declared.definition.TableDef.{TableDef}
use Rattle.row_types.specs.Schema.{IsSchema}
use Rattle.row_types.specs.Tables.{Tables}
use Rattle.script.specs.declared.sections.Script.{Script}
use Rattle.reply_text.specs.declared.last.Fault.{Fault}
use Rattle.reply_text.specs.declared.last.Fault.TheVariants.{Disk, OutOfMemory as MemoryFault, Damaged as DamagedFault}
use Rattle.reply_text.specs.declared.last.Place.TheVariants.{File}
use Rattle.list_store.specs.declared.fault.OpenFault.{OpenFault}
use Rattle.list_store.specs.declared.fault.OpenFault.TheVariants as opening
use Rattle.list_store.specs.Keeping.{IsQuiet}
use Rattle.list_store.specs.Log.{BeginsWith}
use Rattle.list_store.specs.Opening.{CannotOpen, LeftByOpening}
use Rattle.section_runs.specs.declared.section.ReadySection.{ReadySection}
use Rattle.section_runs.specs.declared.section.SectionRun.{SectionRun}
use Rattle.section_runs.specs.declared.section.Halt.{Halt}
use Rattle.section_runs.specs.declared.section.Halt.TheVariants.{Done, Stopped, OutOfMemory}
use Rattle.section_runs.specs.Lasting.{AreCaused, AreFlying}
use Rattle.section_runs.specs.Sections.{AreStopped, FailsAt, IsAnswered, all_said, faults_after, halt_of}
use Rattle.section_runs.specs.Sections.{stopped_in}
use Rattle.section_runs.specs.Trail.{BeginsAmong, Leads, last_of}
use Rattle.shell.specs.Outcome.{OutcomeView, fault_alone}
use Rattle.shell.specs.Ready.{AreReady}

-- the fault that a call ends with whose log file wasn't opened
abbrev pub fault_opening : OpenFault → Fault
fault_opening (opening.Disk file) = Disk file
fault_opening (opening.Damaged file at) = DamagedFault (File file at)
fault_opening opening.OutOfMemory = MemoryFault

-- the fault that a run ends with, by what stopped its sections; none where nothing did
abbrev pub fault_halting : Halt → Option Fault
fault_halting Done = None
fault_halting Stopped = Some (Disk (even_file 0))
fault_halting OutOfMemory = Some MemoryFault

module _ {D : Type 0} (d : Ghosts D) where
  -- The blocks of the sections led over this trail from the tables that the file held: what a crash at any
  -- moment since entry leaves, and one now.
  pub record Survives (defs : List TableDef) (first : Tables) (trail : List Tables)
      (shown : List SectionRun) (old new : D) : Type 0 where
    -- the tables that may have been on their way to the disk: at most those that the stopped block leads to
    pub flying : List Tables
    pub are : AreFlying (stopped_in shown) (last_of first trail) flying
    pub moments : (bytes : List ℕ) → IsQuiet d old bytes
        → LeavesOnly d old new (λ image. LeftByOpening defs bytes image
        ⊎ BeginsAmong defs (first ∷ (trail ++ flying)) image)
    pub kept : LeavesNow d new (BeginsAmong defs (last_of first trail ∷ flying))

  -- The sections were run over the tables that the file held: each block with replies leads from one element
  -- of the trail to the next.
  pub record SectionsRan (defs : List TableDef) (old : D) (shown : List SectionRun) (new : D) : Type 0 where
    pub schema : IsSchema defs
    pub answered : AllByRecursion IsAnswered shown
    pub stopped : AreStopped shown
    pub failed : FailsAt (halt_of shown) (stopped_in shown)
    pub faults : d.faults new ≡ faults_after (halt_of shown) (d.faults old)
    pub first : Tables
    pub opened : ForSome (d.content old) (BeginsWith defs first)
    pub trail : List Tables
    pub statements : Leads first (all_said shown) trail
    pub causes : AreCaused defs first (all_said shown) trail
    pub survives : (bytes : List ℕ) → IsQuiet d old bytes → Survives defs first trail shown old new

  -- the log file wasn't opened, for this reason
  abbrev pub IsUnopened : List TableDef → D → OutcomeView → D → Type 0
  IsUnopened defs old view new =
      (fault : OpenFault) × CannotOpen d defs old fault new × (view ≡ fault_alone (fault_opening fault))

  -- the file was opened, the sections were run, and their answers are shown
  abbrev pub WasRunOver : List TableDef → List ReadySection → D → OutcomeView → D → Type 0
  WasRunOver defs sections old view new =
      (shown : List SectionRun) × (map (λ run. run.section) shown ≡ sections)
      × SectionsRan defs old shown new
      × (view ≡ record { fault = fault_halting (halt_of shown); shown = Some shown })

  -- How the run of a script ended: memory ran out before the log file was touched; or the setup asks for
  -- these tables, and the file couldn't be opened as their log, or the sections were run over it.
  abbrev pub Runs : Script → D → OutcomeView → D → Type 0
  Runs script old view new =
      ((view ≡ fault_alone MemoryFault) × (new ≡ old))
      ⊎ ((defs : List TableDef) × (sections : List ReadySection)
      × AreReady script.setup script.sessions defs sections
      × (IsUnopened defs old view new ⊎ WasRunOver defs sections old view new))
