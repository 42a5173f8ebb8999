-- A run of the sections over the log file that was opened.
use Rattle.std.proofs.Common.{◌≡◌, ◌⊎◌, inl, inr, ℕ, List, ◌∷◌, ◌++◌, refl, sym, ◌∙◌, ap, subst}
use Rattle.std.specs.List.{AllByRecursion}
use Rattle.disk_core.specs.Moments.{LeavesNow, LeavesOnly}
use Rattle.disk_core.specs.declared.disk.Disk.{Ghosts}
use Rattle.disk_core.proofs.Moments.{joined, weaker}
use Rattle.row_types.specs.declared.definition.TableDef.{TableDef}
use Rattle.row_types.specs.Schema.{IsSchema}
use Rattle.list_store.specs.Keeping.{disk_of}
use Rattle.list_store.specs.Opening.{LeftByOpening, Opens}
use Rattle.list_store.specs.declared.store.ListStore.{ListStore}
use Rattle.section_runs.specs.declared.section.SectionRun.{SectionRun}
use Rattle.section_runs.specs.declared.section.Halt.{Halt}
use Rattle.section_runs.specs.Lasting.{AreCaused, Lasts, Runs}
use Rattle.section_runs.specs.Sections.{AreStopped, FailsAt, IsAnswered, all_said, faults_after, halt_of, stopped_in}
use Rattle.section_runs.specs.Trail.{BeginsAmong}
use Rattle.shell.specs.Running.{SectionsRan}

module _ {D : Type 0} (d : Ghosts D) (defs : List TableDef) (old : D) (opened now : ListStore D) (shown : List SectionRun) (halt : Halt) where
  pub sections_ran : IsSchema defs → Opens d defs old opened → Runs d opened (all_said shown) (stopped_in shown) now → halt ≡ halt_of shown → d.faults (disk_of now) ≡ faults_after halt (d.faults (disk_of opened))
      → AllByRecursion IsAnswered shown → AreStopped shown → FailsAt halt (stopped_in shown) → SectionsRan d defs old shown (disk_of now)
  sections_ran schema opens runs halt_is faults answered stopped failed =
      let first = opens.tables in
      let from = runs.each first opens.keeps in
      let trail = from.trail in
      record {
        schema = schema;
        answered = answered;
        stopped = stopped;
        failed = subst (λ (h : Halt). FailsAt h (stopped_in shown)) halt_is failed;
        faults = faults ∙ ap (faults_after halt) opens.faults ∙ ap (λ (h : Halt). faults_after h (d.faults old)) halt_is;
        first = first;
        opened = opens.entry;
        trail = trail;
        statements = from.leads;
        causes = subst (λ (l : List TableDef). AreCaused l first (all_said shown) trail) opens.defs_are from.causes;
        survives = λ bytes quiet.
            let lasts : Lasts d defs first trail (stopped_in shown) (disk_of opened) (disk_of now) =
            subst (λ (l : List TableDef). Lasts d l first trail (stopped_in shown) (disk_of opened) (disk_of now)) opens.defs_are (from.lasts (opens.secures bytes quiet)) in
            let later = BeginsAmong defs (first ∷ (trail ++ lasts.flying)) in
            record {
              flying = lasts.flying;
              are = lasts.are;
              moments = λ entry still.
                  let all : List ℕ → Type 0 = λ image. LeftByOpening defs entry image ⊎ later image in
                  joined d old (disk_of opened) (disk_of now) all
                  (weaker d old (disk_of opened) (LeftByOpening defs entry) all (λ image is. inl is) (opens.moments entry still))
                  (weaker d (disk_of opened) (disk_of now) later all (λ image is. inr is) lasts.moments);
              kept = lasts.now;
            };
      }
