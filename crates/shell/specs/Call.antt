-- Which words ask for a run, and how a call ends and why.
use Rattle.std.specs.Prelude.{◌≡◌, ◌≢◌, ◌⊎◌, ℕ, List, [], ◌∷◌, map, take, codes}
use Rattle.std.specs.List.{flat_map}
use Rattle.std.specs.Option.{ForSome}
use Rattle.io_edge.specs.declared.source.Source as source
use Rattle.io_edge.specs.declared.sink.Sink as sink
use Rattle.disk_core.specs.declared.disk.Disk as disk
use Rattle.row_types.specs.declared.definition.TableDef.{TableDef}
use Rattle.script.specs.declared.sections.Script.{Script}
use Rattle.script.specs.Script.{IsNoScript, IsScript}
use Rattle.reply_text.specs.declared.last.Fault.{Fault}
use Rattle.reply_text.specs.declared.last.Fault.TheVariants as faults
use Rattle.list_store.specs.Log.{DamagedAt, log_reads}
use Rattle.section_runs.specs.declared.section.SectionRun.{SectionRun}
use Rattle.section_runs.specs.declared.section.Halt.TheVariants.{Done}
use Rattle.section_runs.specs.Sections.{halt_of}
use Rattle.shell.specs.Files.{Outside}
use Rattle.shell.specs.Input.{FailsWithin, ReadsWithin, WasRead, read_limit}
use Rattle.shell.specs.Outcome.{OutcomeView, fault_alone}
use Rattle.shell.specs.Ready.{AreReady}
use Rattle.shell.specs.Running.{Runs, SectionsRan}
use Rattle.shell.specs.Shown.{Shows, Took}
use Rattle.shell.specs.Text.{section_text}

-- a word that names a folder isn't empty and doesn't begin with a minus
abbrev pub NamesFolder : List ℕ → Type 0
NamesFolder [] = ⊥
NamesFolder (first ∷ rest) = first ≢ 45

-- the words are `run` and a folder
abbrev pub IsRun : List (List ℕ) → Type 0
IsRun words = (folder : List ℕ) × (words ≡ codes "run" ∷ folder ∷ []) × NamesFolder folder

module _ {S : Type 0} (s : source.Ghosts S) where
  -- what is read of the source is this script
  abbrev pub GivesScript : S → Script → Type 0
  GivesScript old script = ForSome (s.content old) (λ content. IsScript (take read_limit content.left) script)

  -- what is read of the source is no script, and this is the first place at which it isn't
  abbrev pub GivesNoScript : S → ℕ → Type 0
  GivesNoScript old at = ForSome (s.content old) (λ content. IsNoScript (take read_limit content.left) at)

  -- No script was read: the source failed, memory ran out, or what was read is no script.
  abbrev pub NoScript : Fault → S → S → Type 0
  NoScript faults.Source old new = FailsWithin s read_limit old new
  NoScript faults.OutOfMemory old new = ReadsWithin s read_limit old new
  NoScript (faults.Script at) old new = WasRead s old new × GivesNoScript old at
  NoScript other old new = ⊥

-- The words ask for no run: nothing was done.
pub record WrongWords {S D : Type 0} (words : List (List ℕ)) (old new : Outside S D)
    (view : OutcomeView) : Type 0 where
  pub asks_nothing : ¬ (IsRun words)
  pub untouched : new ≡ old
  pub outcome : view ≡ fault_alone faults.Usage

module _ {S D : Type 0} (s : source.Ghosts S) where
  -- The words ask for a run, but no script was read: nothing else was done.
  pub record Unread (words : List (List ℕ)) (old new : Outside S D) (view : OutcomeView) : Type 0 where
    pub asks : IsRun words
    pub fault : Fault
    pub why : NoScript s fault old.source new.source
    pub untouched : new.disk ≡ old.disk
    pub outcome : view ≡ fault_alone fault

module _ {S D : Type 0} (s : source.Ghosts S) (d : disk.Ghosts D) where
  -- The words ask for a run, and the script that was read was run over the log file.
  pub record ScriptRan (words : List (List ℕ)) (old new : Outside S D) (view : OutcomeView) : Type 0 where
    pub asks : IsRun words
    pub read : WasRead s old.source new.source
    pub script : Script
    pub is : GivesScript s old.source script
    pub runs : Runs d script old.disk view new.disk

  -- the reason of an end: the words ask for no run, no script was read, or one was run
  abbrev pub Explains : List (List ℕ) → Outside S D → Outside S D → OutcomeView → Type 0
  Explains words old new view =
      WrongWords words old new view ⊎ (Unread s words old new view ⊎ ScriptRan words old new view)

module _ {S K D : Type 0} (s : source.Ghosts S) (k : sink.Ghosts K) (d : disk.Ghosts D) where
  -- A call came to an outcome for one of these reasons, and showed it.
  pub record Answers (words : List (List ℕ)) (old new : Outside S D) (old_sink new_sink : K)
      (status : ℕ) : Type 0 where
    pub view : OutcomeView
    pub why : Explains s d words old new view
    pub shows : Shows k view old_sink new_sink status

  -- Status 0: the words ask for a run, all of a script was read, every block of its sections has replies, the
  -- sink took the sections with these, and no push failed.
  pub record AllDone (words : List (List ℕ)) (old new : Outside S D) (old_sink new_sink : K) : Type 0 where
    pub asks : IsRun words
    pub read : WasRead s old.source new.source
    pub script : Script
    pub is : GivesScript s old.source script
    pub defs : List TableDef
    pub shown : List SectionRun
    pub ready : AreReady script.setup script.sessions defs (map (λ run. run.section) shown)
    pub whole : halt_of shown ≡ Done
    pub ran : SectionsRan d defs old.disk shown new.disk
    pub took : Took k (flat_map section_text shown) old_sink new_sink
    pub still : k.faults new_sink ≡ k.faults old_sink

module _ {D : Type 0} (d : disk.Ghosts D) where
  -- no call has changed the disk, and its bytes are the same
  pub record IsUntouched (old new : D) : Type 0 where
    pub same : d.content new ≡ d.content old
    pub calls : d.calls new ≡ d.calls old

  -- Status 8: for some tables the log file is open but isn't a log of them, and no call has changed it. That
  -- these are the setup's tables, and that this place is printed, is in `Answers`.
  pub record StaysDamaged (old new : D) : Type 0 where
    pub defs : List TableDef
    pub at : ℕ
    pub reads : ForSome (d.content old) (λ bytes. log_reads defs bytes (DamagedAt at))
    pub untouched : IsUntouched old new

-- the statuses with which no call has changed the log file
abbrev pub LeavesFile : ℕ → Type 0
LeavesFile status = (status ≡ 2) ⊎ ((status ≡ 5) ⊎ ((status ≡ 7) ⊎ (status ≡ 8)))
