use Rattle.std.proofs.Common.{rules, ◌≡◌, inr, List, Option, Some, sym, ◌∙◌, ap, subst}
use Rattle.reply_text.specs.declared.last.Fault.{Fault}
use Rattle.row_types.specs.Schema.{IsSchema}
use Rattle.list_store.specs.Keeping.{disk_of}
use Rattle.section_runs.specs.declared.section.SectionRun.{SectionRun}
use Rattle.shell.specs.Outcome.{OutcomeView}
use Rattle.shell.specs.Running.{SectionsRan, fault_halting}
use Rattle.shell.proofs.RunningLaws.{sections_ran}
use Rattle.shell.proofs.run.run_ready.Goals as goal

pub returns : goal.returns
returns g c =
    let d = g.D.Disk in
    let defs = c.args.schema in
    let runs = c.run_sections-runs.result.0.items in
    let ran = c.run_sections-runs.ensures in
    let schema : IsSchema defs = search (rules, c.schema.invariant, c.schema.view_is) in
    let over = sections_ran d defs c.args.disk c.in-Ok.store c.run_sections-runs.new.store runs c.run_sections-runs.result.1 schema c.in-Ok.ensures.opened ran.runs ran.halt ran.faults ran.answered ran.stopped ran.failed in
    let fault = c.fault_halting.ensures ∙ ap fault_halting ran.halt in
    inr (
      runs,
      ran.sections,
      subst (λ (x : g.row.D.Denot). SectionsRan d defs c.args.disk runs x) (sym c.into_disk.ensures) over,
      ap (λ (f : Option Fault). let v : OutcomeView = record { fault = f; shown = Some runs } in v) fault,
    )
