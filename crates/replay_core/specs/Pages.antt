-- Images of pages in the order of their tables and numbers.
use Rattle.std.specs.Prelude.{ℕ, Bool, List, ◌≡◌, ◌==◌, ◌&&◌, map, length, All}
use Rattle.std.specs.List.{list_any}
use Rattle.std.specs.List.Sorted.{IsStrictlySortedBy}
use Rattle.std.specs.Ordering.{nat_cmp, ordering_then}
use Rattle.std.specs.declared.cmp.Ordering.{Ordering}
use Rattle.xor_records.specs.Replay.{PageImage, PageName, stamp_of, bytes_of}

-- by table, then by number
abbrev pub page_cmp : ℕ × ℕ → ℕ × ℕ → Ordering
page_cmp x y = ordering_then (nat_cmp x.0 y.0) (nat_cmp x.1 y.1)

-- the table and the number of an image's page
abbrev pub key_of : PageImage → ℕ × ℕ
key_of image = (image.table, image.page)

-- the page with this table and number
abbrev pub name_of : ℕ × ℕ → PageName
name_of key = record { table = key.0; page = key.1 }

-- the page has this table and number
abbrev pub is_named : ℕ × ℕ → PageName → Bool
is_named key name = (key.0 == name.table) && (key.1 == name.page)

-- the page is one of these
abbrev pub has_key : List (ℕ × ℕ) → PageName → Bool
has_key keys name = list_any (λ key. is_named key name) keys

-- the page as these images have it: zeros with the stamp 0 where it has none
abbrev pub page_at : List PageImage → ℕ × ℕ → PageImage
page_at images key = record {
  table = key.0;
  page = key.1;
  stamp = stamp_of images (name_of key);
  bytes = bytes_of images (name_of key);
}

-- the images rise by table and number, so no page has two
abbrev pub IsRising : List PageImage → Type 0
IsRising images = IsStrictlySortedBy page_cmp (map key_of images)

-- the image has the bytes of a whole page
abbrev pub IsWhole : PageImage → Type 0
IsWhole image = length image.bytes ≡ 4096

-- images of whole pages, in rising order
pub record AreImages (images : List PageImage) : Type 0 where
  pub rising : IsRising images
  pub whole : All IsWhole images

-- the image is the page's: it has the stamp and the bytes that the page has by these images
pub record IsImageOf (images : List PageImage) (page : ℕ × ℕ) (image : PageImage) : Type 0 where
  pub key : key_of image ≡ page
  pub stamp : stamp_of images (name_of page) ≡ image.stamp
  pub bytes : bytes_of images (name_of page) ≡ image.bytes
