-- The fields of an area's file, where they stand.
use Rattle.std.specs.Prelude.{ℕ, ◌+◌, ◌*◌, List}
use Rattle.std.specs.Int.{w16, w32, w64, from_le_bytes}
use Rattle.fields.specs.Fields.{bytes_at}
use Rattle.area_format.specs.declared.settings.Settings.{Settings}
use Rattle.area_format.specs.declared.head.ImageHead.{ImageHead}

-- the number of 2, 4 or 8 bytes at a place
abbrev pub u16_at : ℕ → List ℕ → ℕ
u16_at at bytes = from_le_bytes w16 (bytes_at at 2 bytes)

abbrev pub u32_at : ℕ → List ℕ → ℕ
u32_at at bytes = from_le_bytes w32 (bytes_at at 4 bytes)

abbrev pub u64_at : ℕ → List ℕ → ℕ
u64_at at bytes = from_le_bytes w64 (bytes_at at 8 bytes)

-- the settings stand at place 11, behind gate, format and generation
unfoldable pub settings_at : List ℕ → Settings
settings_at bytes =
    record {
      lanes = u16_at 11 bytes;
      pages = u32_at 13 bytes;
      nodes = u32_at 17 bytes;
      txn = u32_at 21 bytes;
      segment = u32_at 25 bytes;
    }

-- how many images there are, and how long the schema is
abbrev pub count_at : List ℕ → ℕ
count_at bytes = u32_at 29 bytes

abbrev pub schema_len_at : List ℕ → ℕ
schema_len_at bytes = u16_at 33 bytes

-- the schema's text
abbrev pub schema_text_at : List ℕ → List ℕ
schema_text_at bytes = bytes_at 35 (schema_len_at bytes) bytes

-- where image k stands, counted from 0
abbrev pub image_place : List ℕ → ℕ → ℕ
image_place bytes k = 35 + schema_len_at bytes + 4110 * k

-- the head of image k, and its bytes
unfoldable pub image_head_at : List ℕ → ℕ → ImageHead
image_head_at bytes k =
    record {
      table = u16_at (image_place bytes k) bytes;
      page = u32_at (image_place bytes k + 2) bytes;
      stamp = u64_at (image_place bytes k + 6) bytes;
    }

abbrev pub image_bytes_at : List ℕ → ℕ → List ℕ
image_bytes_at bytes k = bytes_at (image_place bytes k + 14) 4096 bytes
