use Rattle.std.proofs.Common.{rules, ◌≡◌, ◌+◌, List, [], ◌∷◌, ◌++◌, map, Option, refl, sym, ◌∙◌, ap, subst, arith}
use Rattle.std.proofs.lemmas.List.{map-append, length-append}
use Rattle.std.specs.List.{AllByRecursion}
use Rattle.row_types.specs.declared.block.Block.{Block}
use Rattle.section_runs.specs.declared.section.ReadySection.{ReadySection}
use Rattle.section_runs.specs.declared.section.SectionRun.{SectionRun}
use Rattle.section_runs.specs.declared.section.Halt.{Halt}
use Rattle.section_runs.specs.declared.section.Halt.TheVariants.{Done}
use Rattle.section_runs.specs.Lasting.{Runs}
use Rattle.list_store.specs.Keeping.{disk_of}
use Rattle.section_runs.specs.Sections.{AreStopped, FailsAt, IsAnswered, all_said, faults_after, halt_of, stopped_in, worse}
use Rattle.section_runs.proofs.RunLaws.{nothing_run, still_keeps}
use Rattle.section_runs.proofs.SectionLaws.{all-append, fails_on, halt-push, stopped-push, unstopped}
use Rattle.section_runs.proofs.SectionRuns.{faults_on, one_more}
use Rattle.section_runs.proofs.run.run_sections.Goals as goal

pub loop-section-init : goal.loop-section-init
loop-section-init g c =
    let d = g.D.Disk in
    let store = c.args.store.now in
    let P : List SectionRun → Type 0 = λ l. Runs d store (all_said l) (stopped_in l) store in
    let none = nothing_run d g.met.D.Disk.only_now store in
    let begun : (l : List SectionRun) → l ≡ [] → (map (λ run. run.section) l ≡ []) × (Done ≡ halt_of l) × AllByRecursion IsAnswered l × AreStopped l × P l =
    λ l is. subst (λ (l : List SectionRun). (map (λ run. run.section) l ≡ []) × (Done ≡ halt_of l) × AllByRecursion IsAnswered l × AreStopped l × P l) (sym is) (refl, refl, tt, tt, none) in
    let at = begun c.args.room.items c.requires.none in
    (tt, tt, at.0, at.1, at.2, at.3, refl, at.4, λ is. absurd cc, search (rules, c.requires.none), c.requires.room)

pub run_next-run-requires : goal.run_next-run-requires
run_next-run-requires g c =
    let d = g.D.Disk in
    let runs = c.loop-section.runs.items in
    let start = c.args.store.now in
    let now = c.loop-section.store in
    record {
      keeps = λ isnt.
          let none = unstopped runs (λ is. isnt (c.loop-section.invariant.3 ∙ is)) in
          still_keeps d start now (all_said runs) (subst (λ (o : Option Block). Runs d start (all_said runs) o now) none c.loop-section.invariant.7) c.requires.keeps;
    }

pub loop-section-preserved : goal.loop-section-preserved
loop-section-preserved g c =
    let d = g.D.Disk in
    let so_far = c.loop-section.invariant in
    let runs = c.loop-section.runs.items in
    let run = c.run_next-run.result in
    let start = c.args.store.now in
    let mid = c.loop-section.store in
    let new = c.run_next-run.new.store in
    let ran = c.run_next-run.ensures in
    let h = c.loop-section.halt in
    let pushed : c.push_reserved.new.self.items ≡ runs ++ run ∷ [] = c.push_reserved.ensures.items in
    let all = runs ++ run ∷ [] in
    let sections : map (λ r. r.section) all ≡ c.loop-section.yielded ++ c.in-Some.section ∷ [] =
    map-append (λ r. r.section) runs (run ∷ []) ∙ ap (λ (l : List ReadySection). l ++ run.section ∷ []) so_far.2 ∙ ap (λ (s : ReadySection). c.loop-section.yielded ++ s ∷ []) ran.section in
    let halt : c.worse-halt.result ≡ halt_of all = c.worse-halt.ensures ∙ ap (λ (x : Halt). worse x run.halt) so_far.3 ∙ sym (halt-push runs run) in
    let stopped : AreStopped all = stopped-push runs run so_far.5 (λ is. (ran.stopped (so_far.3 ∙ is)).0) in
    let on : Runs d start (all_said all) (stopped_in all) new = one_more d start mid new runs run h so_far.3 so_far.7 ran.runs ran.stopped in
    let failed : FailsAt (worse h run.halt) (stopped_in all) = fails_on h runs run so_far.3 so_far.8 ran.failed in
    let faults = faults_on d start mid new runs run h (d.faults (disk_of start)) so_far.6 ran.faults ran.stopped in (
      tt,
      tt,
      ap (map (λ r. r.section)) pushed ∙ sections,
      halt ∙ ap halt_of (sym pushed),
      subst (AllByRecursion IsAnswered) (sym pushed) (all-append IsAnswered runs run so_far.4 ran.answered),
      subst AreStopped (sym pushed) stopped,
      faults ∙ ap (λ (x : Halt). faults_after x (d.faults (disk_of start))) (sym c.worse-halt.ensures),
      subst (λ (l : List SectionRun). Runs d start (all_said l) (stopped_in l) new) (sym pushed) on,
      subst (λ (l : List SectionRun). FailsAt c.worse-halt.result (stopped_in l)) (sym pushed) (subst (λ (x : Halt). FailsAt x (stopped_in all)) (sym c.worse-halt.ensures) failed),
      omega (arith, c.push_reserved.ensures.len, so_far.9, length-append c.loop-section.yielded (c.in-Some.section ∷ [])),
      omega (arith, c.push_reserved.ensures.capacity, so_far.10),
    )
