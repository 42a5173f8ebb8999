-- What an area's file reads as: what it holds, or the place of the first rule that it breaks.
use Rattle.std.specs.Prelude.{ℕ, zero, suc, ◌+◌, ◌*◌, ◌^◌, Bool, ◌||◌, ◌&&◌, if◌then◌else◌, ◌==◌, nat_lt, nat_le, true}
use Rattle.std.specs.Prelude.{List, [], ◌∷◌, length, slice_index, Option, None, Some, is_some}
use Rattle.std.specs.Option.{option_or, unwrap_or}
use Rattle.row_types.specs.declared.definition.TableDef.{TableDef}
use Rattle.row_types.specs.SchemaReading.{schema_at}
use Rattle.area_format.specs.declared.settings.Settings.{Settings}
use Rattle.area_format.specs.declared.head.ImageHead.{ImageHead}
use Rattle.area_format.specs.Area.{Area, Image}
use Rattle.area_format.specs.Places.{u16_at, u64_at, settings_at, count_at, schema_text_at}
use Rattle.area_format.specs.Places.{image_place, image_head_at, image_bytes_at}

-- what an area's file reads as; a damaged one tells its generation where its first eleven bytes do
pub data AreaRead : Type 0 where
  NotOpen : AreaRead
  DamagedAt : (at : ℕ) (generation : Option ℕ) → AreaRead
  Holding : Area → AreaRead

-- a number lies from one up to another
abbrev pub within : ℕ → ℕ → ℕ → Bool
within least greatest n = nat_le least n && nat_le n greatest

-- the place that is named where the first of these rules is broken that is
abbrev pub first_broken : List (ℕ × Bool) → Option ℕ
first_broken [] = None
first_broken ((at, holds) ∷ rules) = if holds then first_broken rules else Some at

-- the first eleven bytes: they are there, the format is 1, and the generation is from 1 to 2^63
unfoldable pub start_fault : List ℕ → Option ℕ
start_fault bytes =
    first_broken ((0, nat_le 11 (length bytes)) ∷ (1, u16_at 1 bytes == 1)
    ∷ (3, within 1 (2 ^ 63) (u64_at 3 bytes)) ∷ [])

-- each setting lies in its limits, and a segment has room for what is asked of it
abbrev pub settings_rules : Settings → List (ℕ × Bool)
settings_rules s =
    (11, within 1 8 s.lanes) ∷ (13, within 1 65536 s.pages) ∷ (17, within 16 65536 s.nodes)
    ∷ (21, within 4096 1048576 s.txn)
    ∷ (25, within 1048576 134217728 s.segment && nat_le (64 + 32 * (2 * s.txn + 64)) s.segment) ∷ []

-- the fields behind them: they are there, each setting is one, and there are at most as many images as pages
unfoldable pub fields_fault : List ℕ → Option ℕ
fields_fault bytes =
    option_or (first_broken ((0, nat_le 35 (length bytes)) ∷ settings_rules (settings_at bytes)))
    (first_broken ((29, nat_le (count_at bytes) (settings_at bytes).pages) ∷ []))

-- the schema is there and is one, and the file doesn't end before its last image does
unfoldable pub body_fault : List ℕ → Option ℕ
body_fault bytes =
    first_broken ((0, nat_le (image_place bytes 0) (length bytes))
    ∷ (35, is_some (schema_at (schema_text_at bytes)))
    ∷ (0, nat_le (image_place bytes (count_at bytes)) (length bytes)) ∷ [])

-- the first rule that the head of an open file breaks
unfoldable pub header_fault : List ℕ → Option ℕ
header_fault bytes = option_or (start_fault bytes) (option_or (fields_fault bytes) (body_fault bytes))

-- the least table comes first, and of a table the least page
abbrev pub precedes : ImageHead → ImageHead → Bool
precedes a b = nat_lt a.table b.table || (a.table == b.table && nat_lt a.page b.page)

-- the schema of a file whose header breaks no rule
abbrev pub schema_in : List ℕ → List TableDef
schema_in bytes = unwrap_or (schema_at (schema_text_at bytes)) []

-- image k comes after the one before it
abbrev pub is_in_order : List ℕ → ℕ → Bool
is_in_order bytes zero = true
is_in_order bytes (suc k) = precedes (image_head_at bytes k) (image_head_at bytes (suc k))

-- and is of a page below the setting, of one of the schema's tables
unfoldable pub is_image_at : List ℕ → ℕ → Bool
is_image_at bytes k =
    nat_lt (image_head_at bytes k).table (length (schema_in bytes))
    && nat_lt (image_head_at bytes k).page (settings_at bytes).pages && is_in_order bytes k

-- the place of the first of n images, from image k on, that breaks a rule
abbrev pub images_fault : List ℕ → ℕ → ℕ → Option ℕ
images_fault bytes k zero = None
images_fault bytes k (suc n) =
    if is_image_at bytes k then images_fault bytes (suc k) n else Some (image_place bytes k)

-- n images from image k on
abbrev pub images_from : List ℕ → ℕ → ℕ → List Image
images_from bytes k zero = []
images_from bytes k (suc n) =
    record { head = image_head_at bytes k; bytes = image_bytes_at bytes k } ∷ images_from bytes (suc k) n

-- what a file without a fault holds
abbrev pub area_in : List ℕ → Area
area_in bytes =
    record {
      generation = u64_at 3 bytes;
      settings = settings_at bytes;
      schema = schema_in bytes;
      images = images_from bytes 0 (count_at bytes);
    }

-- the first rule that an open file breaks
abbrev pub area_fault : List ℕ → Option ℕ
area_fault bytes = option_or (header_fault bytes) (images_fault bytes 0 (count_at bytes))

-- the generation of a file whose first eleven bytes break no rule
abbrev pub generation_told : List ℕ → Option ℕ
generation_told bytes = if is_some (start_fault bytes) then None else Some (u64_at 3 bytes)

-- with this fault it is damaged there, and without one it holds an area
abbrev pub read_with : Option ℕ → List ℕ → AreaRead
read_with None bytes = Holding (area_in bytes)
read_with (Some at) bytes = DamagedAt at (generation_told bytes)

-- what the file reads as
unfoldable pub area_reads : List ℕ → AreaRead
area_reads bytes =
    if slice_index bytes 0 == 1 then read_with (area_fault bytes) bytes else NotOpen
