-- The text of an area: a head with the settings and the schema, and page images one after the other.
use Rattle.std.specs.Prelude.{◌≡◌, ◌⊎◌, ℕ, ◌<◌, ◌≤◌, ◌^◌, List, [], ◌∷◌, ◌++◌, length, slice_index}
use Rattle.std.specs.List.{AllByRecursion, flat_map}
use Rattle.std.specs.Int.{w16, w32, w64, to_le_bytes}
use Rattle.row_types.specs.declared.definition.TableDef.{TableDef}
use Rattle.row_types.specs.Schema.{IsSchema}
use Rattle.row_types.specs.SchemaText.{schema_text}
use Rattle.area_format.specs.declared.settings.Settings.{Settings}
use Rattle.area_format.specs.declared.head.ImageHead.{ImageHead}
use Rattle.area_format.specs.Settings.{IsSettings}

-- the file is open: its first byte is 1
abbrev pub IsOpen : List ℕ → Type 0
IsOpen bytes = slice_index bytes 0 ≡ 1

-- the file isn't open: its first byte is another, or it has none
abbrev pub IsNotOpen : List ℕ → Type 0
IsNotOpen bytes = ¬ (IsOpen bytes)

-- the image of a page: which page of which table it is, its stamp, and its bytes
pub record Image : Type 0 where
  pub head : ImageHead
  pub bytes : List ℕ

-- what an area holds
pub record Area : Type 0 where
  pub generation : ℕ
  pub settings : Settings
  pub schema : List TableDef
  pub images : List Image

-- the least table first, and of a table the least page
abbrev pub Precedes : ImageHead → ImageHead → Type 0
Precedes a b = (a.table < b.table) ⊎ ((a.table ≡ b.table) × (a.page < b.page))

-- each image comes before the next
abbrev pub AreInOrder : List Image → Type 0
AreInOrder [] = Unit {0}
AreInOrder (image ∷ images) =
    AllByRecursion (λ later. Precedes image.head later.head) images × AreInOrder images

-- the image of a page of one of the schema's tables, below the setting
pub record IsImage (settings : Settings) (schema : List TableDef) (image : Image) : Type 0 where
  pub table : image.head.table < length schema
  pub page : image.head.page < settings.pages
  pub stamp : image.head.stamp < 2 ^ 64
  pub size : length image.bytes ≡ 4096

-- the head of an image is spelled field by field
abbrev pub image_head_text : ImageHead → List ℕ
image_head_text head =
    to_le_bytes w16 head.table ++ to_le_bytes w32 head.page ++ to_le_bytes w64 head.stamp

-- and then come its bytes: 4,110 in all
unfoldable pub image_text : Image → List ℕ
image_text image = image_head_text image.head ++ image.bytes

-- behind the gate stand the format, the generation, the settings and how many images follow
unfoldable pub fields_text : ℕ → Settings → ℕ → List ℕ
fields_text generation settings count =
    to_le_bytes w16 1 ++ to_le_bytes w64 generation ++ to_le_bytes w16 settings.lanes
    ++ to_le_bytes w32 settings.pages ++ to_le_bytes w32 settings.nodes ++ to_le_bytes w32 settings.txn
    ++ to_le_bytes w32 settings.segment ++ to_le_bytes w32 count

-- and then the schema, with its length before it
unfoldable pub header_text : ℕ → Settings → List TableDef → ℕ → List ℕ
header_text generation settings schema count =
    fields_text generation settings count
    ++ to_le_bytes w16 (length (schema_text schema)) ++ schema_text schema

-- an area's file behind its gate, up to the end of its last image
abbrev pub area_text : Area → List ℕ
area_text area =
    header_text area.generation area.settings area.schema (length area.images)
    ++ flat_map image_text area.images

-- what an area may hold
pub record IsArea (area : Area) : Type 0 where
  pub generation : (1 ≤ area.generation) × (area.generation ≤ 2 ^ 63)
  pub settings : IsSettings area.settings
  pub schema : IsSchema area.schema
  pub images : AllByRecursion (IsImage area.settings area.schema) area.images
  pub order : AreInOrder area.images
  pub count : length area.images ≤ area.settings.pages

-- The file is open and holds this area; what stands behind its last image doesn't count.
pub record Holds (area : Area) (bytes : List ℕ) : Type 0 where
  pub fits : IsArea area
  pub rest : List ℕ
  pub text : bytes ≡ 1 ∷ area_text area ++ rest
