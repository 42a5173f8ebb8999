-- The change calls by which an area is written.
use Rattle.std.specs.Prelude.{ℕ, List, [], ◌∷◌, length, Result}
use Rattle.std.specs.Int.{w16, to_le_bytes}
use Rattle.disk_core.specs.ChangeCalls.{ChangeCall, Made, SyncCall, WriteCall}
use Rattle.disk_core.specs.declared.disk.Disk.{Ghosts}
use Rattle.row_types.specs.SchemaText.{schema_text}
use Rattle.area_format.specs.Area.{Area, Image, fields_text, image_text}
use Rattle.area_writer.specs.Writer.{IsFailed, spare_disk}
use Rattle.area_writer.specs.declared.fault.AreaFault.{AreaFault}
use Rattle.area_writer.specs.declared.writer.AreaWriter.{AreaWriter}

-- the gate is closed
abbrev pub close_calls : List ChangeCall
close_calls = WriteCall 0 (0 ∷ []) ∷ SyncCall ∷ []

-- the fixed fields are written, the schema's length, and the schema
abbrev pub header_calls : Area → ℕ → List ChangeCall
header_calls area count =
    WriteCall 1 (fields_text area.generation area.settings count)
    ∷ WriteCall 33 (to_le_bytes w16 (length (schema_text area.schema)))
    ∷ WriteCall 35 (schema_text area.schema) ∷ []

-- an image is written in one piece
abbrev pub image_calls : ℕ → Image → List ChangeCall
image_calls at image = WriteCall at (image_text image) ∷ []

-- what was written is brought to where a crash leaves it
abbrev pub seal_calls : List ChangeCall
seal_calls = SyncCall ∷ []

-- the gate is opened
abbrev pub open_calls : List ChangeCall
open_calls = WriteCall 0 (1 ∷ []) ∷ SyncCall ∷ []

-- where no disk had failed before, a call of the writer made the calls of this plan on
-- the disk that was the spare one and is this one now, or those up to the one that failed
abbrev pub Carries : {D T : Type 0} → Ghosts D → AreaWriter D → D → List ChangeCall → Result T AreaFault
    → Type 0
Carries d old now plan result = ¬ (IsFailed old) → Made plan result (d.calls (spare_disk old)) (d.calls now)
