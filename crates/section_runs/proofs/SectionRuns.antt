-- Runs of sections one after the other.
use Rattle.std.proofs.Common.{◌≡◌, ◌≢◌, ℕ, List, [], ◌∷◌, ◌++◌, Option, None, refl, sym, ◌∙◌, ap, subst}
use Rattle.disk_core.specs.declared.disk.Disk.{Ghosts}
use Rattle.row_types.specs.declared.block.Block.{Block}
use Rattle.plain_model.specs.Blocks.{Said}
use Rattle.list_store.specs.Keeping.{disk_of}
use Rattle.list_store.specs.declared.store.ListStore.{ListStore}
use Rattle.section_runs.specs.declared.section.SectionRun.{SectionRun}
use Rattle.section_runs.specs.declared.section.Halt.{Halt}
use Rattle.section_runs.specs.declared.section.Halt.TheVariants.{Done, Stopped, OutOfMemory}
use Rattle.section_runs.specs.Lasting.{Runs}
use Rattle.section_runs.specs.Sections.{IsUnrun, all_said, faults_after, halt_of, said_by, stopped_by, stopped_in, worse}
use Rattle.section_runs.proofs.RunLaws.{runs_on}
use Rattle.section_runs.proofs.SectionLaws.{faults-after, once_stopped, said-push, unrun-push, unstopped, none_stopped}

module _ {D : Type 0} (d : Ghosts D) (start mid new : ListStore D) (runs : List SectionRun) (run : SectionRun) where
  goes_on : halt_of runs ≢ Stopped → Runs d start (all_said runs) (stopped_in runs) mid → Runs d mid (said_by run) (stopped_by run) new → Runs d start (all_said (runs ++ run ∷ [])) (stopped_in (runs ++ run ∷ [])) new
  goes_on isnt before after =
      let first : Runs d start (all_said runs) None mid = subst (λ (o : Option Block). Runs d start (all_said runs) o mid) (unstopped runs isnt) before in
      let both = runs_on d start mid new (all_said runs) (said_by run) (stopped_by run) first after in
      subst (λ (o : Option Block). Runs d start (all_said (runs ++ run ∷ [])) o new) (sym (none_stopped runs (run ∷ []) isnt))
      (subst (λ (l : List Said). Runs d start l (stopped_by run) new) (sym (said-push runs run)) both)

  ended : halt_of runs ≡ Stopped → Runs d start (all_said runs) (stopped_in runs) mid → IsUnrun run → new ≡ mid → Runs d start (all_said (runs ++ run ∷ [])) (stopped_in (runs ++ run ∷ [])) new
  ended is before unrun same =
      subst (λ (s : ListStore D). Runs d start (all_said (runs ++ run ∷ [])) (stopped_in (runs ++ run ∷ [])) s) (sym same)
      (subst (λ (o : Option Block). Runs d start (all_said (runs ++ run ∷ [])) o mid) (sym (once_stopped runs (run ∷ []) is))
      (subst (λ (l : List Said). Runs d start l (stopped_in runs) mid) (sym (unrun-push runs run unrun.0)) before))

  pub one_more : (h : Halt) → h ≡ halt_of runs → Runs d start (all_said runs) (stopped_in runs) mid → (h ≢ Stopped → Runs d mid (said_by run) (stopped_by run) new) → (h ≡ Stopped → IsUnrun run × (new ≡ mid))
      → Runs d start (all_said (runs ++ run ∷ [])) (stopped_in (runs ++ run ∷ [])) new
  one_more Done is before ran unrun = goes_on (λ stopped. let e : Done ≡ Stopped = is ∙ stopped in absurd cc) before (ran (λ e. absurd cc))
  one_more Stopped is before ran unrun = let none = unrun refl in ended (sym is) before none.0 none.1
  one_more OutOfMemory is before ran unrun = goes_on (λ stopped. let e : OutOfMemory ≡ Stopped = is ∙ stopped in absurd cc) before (ran (λ e. absurd cc))

  pub faults_on : (h : Halt) (n : ℕ) → d.faults (disk_of mid) ≡ faults_after h n → (h ≢ Stopped → d.faults (disk_of new) ≡ faults_after run.halt (d.faults (disk_of mid))) → (h ≡ Stopped → IsUnrun run × (new ≡ mid))
      → d.faults (disk_of new) ≡ faults_after (worse h run.halt) n
  faults_on Done n before ran unrun = faults-after Done run.halt n (d.faults (disk_of mid)) (d.faults (disk_of new)) (λ e. absurd cc) before (ran (λ e. absurd cc))
  faults_on Stopped n before ran unrun = ap (λ (s : ListStore D). d.faults (disk_of s)) (unrun refl).1 ∙ before
  faults_on OutOfMemory n before ran unrun = faults-after OutOfMemory run.halt n (d.faults (disk_of mid)) (d.faults (disk_of new)) (λ e. absurd cc) before (ran (λ e. absurd cc))
