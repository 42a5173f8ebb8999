-- What is printed: the sections with their replies, and a last line that reports a fault.
use Rattle.std.specs.Prelude.{ℕ, List, [], ◌++◌, codes, Option, None, Some}
use Rattle.std.specs.List.{flat_map}
use Rattle.reply_text.specs.declared.last.Fault.{Fault}
use Rattle.reply_text.specs.declared.last.Fault.TheVariants as faults
use Rattle.reply_text.specs.Text.{header_line, last_line, reply_text}
use Rattle.section_runs.specs.declared.section.SectionRun.{SectionRun}
use Rattle.section_runs.specs.declared.section.Halt.{Halt}
use Rattle.section_runs.specs.declared.section.Halt.TheVariants.{Done, Stopped, OutOfMemory}
use Rattle.section_runs.specs.Sections.{left_in}
use Rattle.shell.specs.Outcome.{OutcomeView}

-- the line of a block that has no replies
abbrev pub halt_line : Halt → List ℕ
halt_line Done = []
halt_line Stopped = codes "stopped\n"
halt_line OutOfMemory = codes "stopped MEMORY\n"

-- A section: its header, the replies to its leading statements, those to the
-- blocks behind them, and a line for each block that has none.
abbrev pub section_text : SectionRun → List ℕ
section_text run =
    header_line run.section.number
    ++ (flat_map reply_text run.section.leads
    ++ (flat_map (flat_map reply_text) run.said ++ flat_map (λ _. halt_line run.halt) (left_in run)))

-- the sections, where they were started
abbrev pub shown_text : Option (List SectionRun) → List ℕ
shown_text None = []
shown_text (Some runs) = flat_map section_text runs

-- the last line, where there is a fault
abbrev pub fault_line : Option Fault → List ℕ
fault_line None = []
fault_line (Some fault) = last_line fault

-- the text of an outcome
abbrev pub text_of : OutcomeView → List ℕ
text_of view = shown_text view.shown ++ fault_line view.fault

-- the exit status of a fault
abbrev pub fault_status : Fault → ℕ
fault_status faults.Usage = 2
fault_status faults.OutOfMemory = 3
fault_status (faults.Disk file) = 4
fault_status faults.Source = 5
fault_status (faults.Script at) = 7
fault_status (faults.Damaged place) = 8
fault_status faults.NoBase = 9
fault_status faults.Exists = 10
fault_status (faults.Lanes given wanted) = 11

-- the exit status, where all was printed
abbrev pub status_of : Option Fault → ℕ
status_of None = 0
status_of (Some fault) = fault_status fault
