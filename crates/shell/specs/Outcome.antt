-- How a call ended, as its outcome shows it.
use Rattle.std.specs.Prelude.{List, Option, None, Some}
use Rattle.std.specs.Option.{option_map}
use Rattle.reply_text.specs.declared.last.Fault.{Fault}
use Rattle.section_runs.specs.declared.section.SectionRun.{SectionRun}
use Rattle.shell.specs.declared.outcome.Outcome.{Outcome}

-- the fault that ended a call, where one did, and the answers of the sections, where they were started
pub record OutcomeView : Type 0 where
  pub fault : Option Fault
  pub shown : Option (List SectionRun)

-- the view of an outcome
abbrev pub view_of : Outcome → OutcomeView
view_of outcome =
    record { fault = outcome.fault; shown = option_map (λ runs. runs.items) outcome.shown }

-- a call that this fault ended before the sections were started
abbrev pub fault_alone : Fault → OutcomeView
fault_alone fault = record { fault = Some fault; shown = None }
