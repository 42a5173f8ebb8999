-- What a writer of areas knows of its spare file, and how its calls fail.
use Rattle.std.specs.Prelude.{◌≡◌, ◌↔◌, ℕ, ◌+◌, ◌*◌, ◌≤◌, ◌^◌, Bool, true, false, [], length, Result, Ok, Err, OnOk}
use Rattle.std.specs.Option.{ForSome}
use Rattle.base_types.specs.Causes.{one_more}
use Rattle.disk_core.specs.declared.disk.Disk.{Ghosts}
use Rattle.disk_core.specs.declared.store.FileName.{FileName}
use Rattle.disk_core.specs.declared.store.FileName.TheVariants.{AreaA, AreaB}
use Rattle.disk_core.specs.Crash.{NothingPending}
use Rattle.area_format.specs.Area.{Area, area_text}
use Rattle.area_writer.specs.Put.{HasText, text_so_far}
use Rattle.area_writer.specs.declared.fault.AreaFault.{AreaFault}
use Rattle.area_writer.specs.declared.fault.AreaFault.TheVariants.{Disk, Closed}
use Rattle.area_writer.specs.declared.writer.AreaWriter.{AreaWriter}
use Rattle.area_writer.specs.declared.writer.Stage.{Stage}
use Rattle.area_writer.specs.declared.writer.Stage.TheVariants.{Shut, Filling, Sealed, Failed}

-- the disk of the spare area, which is written, and the one of the other area
abbrev pub spare_disk : {D : Type 0} → AreaWriter D → D
spare_disk w = w.spare

abbrev pub other_disk : {D : Type 0} → AreaWriter D → D
other_disk w = w.other

-- the name of one of the two areas: of the second, or of the first
abbrev pub area_name : Bool → FileName
area_name true = AreaB
area_name false = AreaA

-- the spare area is the second one
abbrev pub is_b_of : {D : Type 0} → AreaWriter D → Bool
is_b_of w = w.is_b

-- the name of the spare area
abbrev pub spare_of : {D : Type 0} → AreaWriter D → FileName
spare_of w = area_name w.is_b

-- two disks in the order of the files' names, where the first of them is the second area's or the first one's
abbrev pub in_order : {D : Type 0} → Bool → D → D → D × D
in_order true spare other = (other, spare)
in_order false spare other = (spare, other)

-- the disks of area A and area B
abbrev pub disks_of : {D : Type 0} → AreaWriter D → D × D
disks_of w = in_order w.is_b w.spare w.other

-- how far it has come
abbrev pub stage_of : {D : Type 0} → AreaWriter D → Stage
stage_of w = w.stage

-- a disk of it failed in an earlier call
abbrev pub IsFailed : {D : Type 0} → AreaWriter D → Type 0
IsFailed w = (file : FileName) × (stage_of w ≡ Failed file)

-- the disk of the area whose gate was to be opened: once it is open it isn't the spare one
abbrev pub opened_disk : {D T : Type 0} → Result T AreaFault → AreaWriter D → D
opened_disk (Ok _) w = other_disk w
opened_disk (Err _) w = spare_disk w

-- the disk of the area that wasn't called then
abbrev pub uncalled_disk : {D T : Type 0} → Result T AreaFault → AreaWriter D → D
uncalled_disk (Ok _) w = spare_disk w
uncalled_disk (Err _) w = other_disk w

-- The spare area's gate was closed by the last call.
pub record IsShut {D : Type 0} (d : Ghosts D) (w : AreaWriter D) : Type 0 where
  pub stage : stage_of w ≡ Shut
  pub file : ForSome (d.content (spare_disk w)) (HasText [])

-- The head of this area and its images are put behind the closed gate, and so
-- many images more are to come. The next one goes to this place.
pub record IsFilling {D : Type 0} (d : Ghosts D) (w : AreaWriter D) (area : Area) (left : ℕ) : Type 0 where
  pub at : ℕ
  pub stage : stage_of w ≡ Filling left at
  pub place : at ≡ 1 + length (text_so_far area left)
  pub near : at + 4110 * left ≤ 2 ^ 48
  pub file : ForSome (d.content (spare_disk w)) (HasText (text_so_far area left))

-- The whole area stands behind the closed gate, and no crash leaves anything else.
pub record IsSealed {D : Type 0} (d : Ghosts D) (w : AreaWriter D) (area : Area) : Type 0 where
  pub stage : stage_of w ≡ Sealed
  pub file : ForSome (d.content (spare_disk w)) (HasText (area_text area))
  pub pending : NothingPending (d.content (spare_disk w)) (d.may_leave (spare_disk w))

-- How a call ends that called no disk but the spare area's, which is this one now. `Disk` names its file, whose
-- count of faults rose by exactly one, and is kept; an Ok leaves the count. `Closed` comes exactly after such a
-- fault, names the kept file and changes nothing.
pub record KeepsFault {D T : Type 0} (d : Ghosts D) (old new : AreaWriter D) (now : D)
    (result : Result T AreaFault) : Type 0 where
  pub later : d.faults (spare_disk old) ≤ d.faults now
  pub still : OnOk result (d.faults now ≡ d.faults (spare_disk old))
  pub disk : (file : FileName) → result ≡ Err (Disk file) → (file ≡ spare_of old)
      × (d.faults now ≡ one_more (d.faults (spare_disk old))) × (stage_of new ≡ Failed file)
  pub closed : (file : FileName) → (result ≡ Err (Closed file)) ↔ (stage_of old ≡ Failed file)
  pub unchanged : IsFailed old → new ≡ old
