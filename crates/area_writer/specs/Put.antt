-- What is put into a file before its gate is opened.
use Rattle.std.specs.Prelude.{◌≡◌, ℕ, ◌+◌, List, [], ◌∷◌, ◌++◌, length, drop}
use Rattle.std.specs.List.{flat_map}
use Rattle.row_types.specs.declared.definition.TableDef.{TableDef}
use Rattle.area_format.specs.declared.settings.Settings.{Settings}
use Rattle.area_format.specs.Area.{Area, Image, header_text, image_text}

-- The gate is closed, and behind it stands this text; what stands behind that doesn't count.
pub record HasText (text bytes : List ℕ) : Type 0 where
  pub rest : List ℕ
  pub whole : bytes ≡ 0 ∷ text ++ rest

-- the file with another gate
abbrev pub with_gate : ℕ → List ℕ → List ℕ
with_gate gate bytes = gate ∷ drop 1 bytes

-- an area so far, where so many images are still to come: its head speaks of these too
abbrev pub text_so_far : Area → ℕ → List ℕ
text_so_far area left =
    header_text area.generation area.settings area.schema (length area.images + left)
    ++ flat_map image_text area.images

-- the area with one image more
abbrev pub with_image : Area → Image → Area
with_image area image = record area { images = area.images ++ image ∷ [] }

-- an area of no image so far
abbrev pub new_area : ℕ → Settings → List TableDef → Area
new_area generation settings schema =
    record { generation = generation; settings = settings; schema = schema; images = [] }
