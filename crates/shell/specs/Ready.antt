-- The sections of a script, ready to be run, and the definitions of the tables that its setup asks for.
use Rattle.std.specs.Prelude.{◌≡◌, ℕ, ◌+◌, List, [], ◌∷◌, Option, None, Some}
use Rattle.row_types.specs.declared.definition.TableDef.{TableDef}
use Rattle.row_types.specs.Tables.{Tables, schema_of}
use Rattle.plain_model.specs.declared.reply.Reply.{Reply}
use Rattle.script.specs.declared.sections.Section.{Section}
use Rattle.section_runs.specs.declared.section.ReadySection.{ReadySection}
use Rattle.shell.specs.Leading.{AreLeading}

-- the sessions, numbered from n on
abbrev pub numbered : ℕ → List Section → List ReadySection
numbered n [] = []
numbered n (session ∷ sessions) =
    record { number = Some n; leads = []; blocks = session.blocks } ∷ numbered (n + 1) sessions

-- The setup, where there is one, with the replies to its leading statements, and then the sessions from 1 on.
-- The tables are those that these statements leave, from none on.
abbrev pub AreReady : Option Section → List Section → List TableDef → List ReadySection → Type 0
AreReady None sessions defs sections = (defs ≡ []) × (sections ≡ numbered 1 sessions)
AreReady (Some setup) sessions defs sections =
    (replies : List Reply) × (tables : Tables) × AreLeading setup.blocks [] replies tables
    × (defs ≡ schema_of tables)
    × (sections ≡ record { number = None; leads = replies; blocks = setup.blocks } ∷ numbered 1 sessions)
