-- What the results of the calls that read an area say of its file.
use Rattle.std.specs.Prelude.{◌≡◌, ◌<◌, ◌≤◌, ℕ, ◌^◌, if◌then◌else◌, List, length, Option, None, Some, Result, Ok, Err}
use Rattle.base_types.specs.Causes.{one_more}
use Rattle.area_format.specs.declared.fault.AreaReadFault.{AreaReadFault}
use Rattle.area_format.specs.declared.fault.AreaReadFault.TheVariants.{Disk, Damaged, OutOfMemory}
use Rattle.area_format.specs.declared.head.Header.{Header}
use Rattle.area_format.specs.declared.head.ImageHead.{ImageHead}
use Rattle.area_format.specs.Area.{IsNotOpen, IsOpen}
use Rattle.area_format.specs.AreaRead.{area_in, header_fault, is_image_at}
use Rattle.area_format.specs.Places.{count_at, image_place}
use Rattle.area_format.specs.Settings.{IsSettings}

-- A reading names the file's fault where it has one, and else what it gives has P.
-- Nothing is said where the disk failed or memory ran out.
abbrev pub NamesFault : {T : Type 0} → Option ℕ → (T → Type 0) → Result T AreaReadFault → Type 0
NamesFault fault P (Ok x) = (fault ≡ None) × P x
NamesFault fault P (Err (Damaged at)) = fault ≡ Some at
NamesFault fault P (Err Disk) = Unit {0}
NamesFault fault P (Err OutOfMemory) = Unit {0}

-- The same of a file whose gate is open. Of another one it gives nothing.
abbrev pub NamesFaultOfOpen : {T : Type 0} → List ℕ → Option ℕ → (T → Type 0)
    → Result (Option T) AreaReadFault → Type 0
NamesFaultOfOpen bytes fault P (Ok None) = IsNotOpen bytes
NamesFaultOfOpen bytes fault P (Ok (Some x)) = IsOpen bytes × (fault ≡ None) × P x
NamesFaultOfOpen bytes fault P (Err (Damaged at)) = IsOpen bytes × (fault ≡ Some at)
NamesFaultOfOpen bytes fault P (Err Disk) = Unit {0}
NamesFaultOfOpen bytes fault P (Err OutOfMemory) = Unit {0}

-- the header of an open file whose head breaks no rule
pub record IsHeaderOf (bytes : List ℕ) (header : Header) : Type 0 where
  pub open_gate : IsOpen bytes
  pub fine : header_fault bytes ≡ None
  pub generation : header.generation ≡ (area_in bytes).generation
  pub settings : header.settings ≡ (area_in bytes).settings
  pub schema : header.schema ≡ (area_in bytes).schema
  pub count : header.count ≡ count_at bytes

-- what holds of each header that is read
pub record IsHeader (header : Header) : Type 0 where
  pub generation : (1 ≤ header.generation) × (header.generation ≤ 2 ^ 63)
  pub settings : IsSettings header.settings
  pub count : header.count ≤ header.settings.pages

-- what holds of the head of each image that is read
pub record IsUnder (header : Header) (head : ImageHead) : Type 0 where
  pub table : head.table < length header.schema
  pub page : head.page < header.settings.pages

-- image k breaks a rule: its place
abbrev pub image_fault : List ℕ → ℕ → Option ℕ
image_fault bytes k = if is_image_at bytes k then None else Some (image_place bytes k)

-- with a fault of the disk exactly one call of it has failed, and with any other result none
abbrev pub FaultHasCause : {T : Type 0} → ℕ → ℕ → Result T AreaReadFault → Type 0
FaultHasCause old new (Ok _) = new ≡ old
FaultHasCause old new (Err Disk) = new ≡ one_more old
FaultHasCause old new (Err (Damaged at)) = new ≡ old
FaultHasCause old new (Err OutOfMemory) = new ≡ old
