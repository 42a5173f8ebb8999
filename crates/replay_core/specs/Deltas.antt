-- What records toggle on pages.
use Rattle.std.specs.Prelude.{ℕ, Bool, cond, List, [], ◌∷◌, ◌≡◌, ◌==◌, ◌&&◌, map}
use Rattle.std.specs.List.{list_any}
use Rattle.fields.specs.Toggle.{byte_at}
use Rattle.xor_records.specs.Record.{Record}
use Rattle.xor_records.specs.Parity.{flipped}
use Rattle.xor_records.specs.Replay.{PageName, PageImage, stamp_of, zeros, owed_byte, changes}

-- a page, and the XOR to apply to its bytes
pub record PageDelta : Type 0 where
  pub table : ℕ
  pub page : ℕ
  pub xor : List ℕ

-- the delta is of this page
abbrev pub is_delta_of : PageName → PageDelta → Bool
is_delta_of name delta = (delta.table == name.table) && (delta.page == name.page)

-- the page has a delta, which may be zeros
abbrev pub has_delta : List PageDelta → PageName → Bool
has_delta deltas name = list_any (is_delta_of name) deltas

-- the XOR of the page, zeros where it has no delta
abbrev pub xor_of : List PageDelta → PageName → List ℕ
xor_of [] name = zeros
xor_of (delta ∷ deltas) name = cond (is_delta_of name delta) delta.xor (xor_of deltas name)

-- The deltas of records: each page that has a change among them has one, which
-- is what comes of the changes owed to the page, toggled on zeros.
pub record AreDeltas (images : List PageImage) (has_ended : ℕ → Bool) (records : List Record)
    (deltas : List PageDelta) : Type 0 where
  pub there : (name : PageName) → has_delta deltas name ≡ list_any (changes name) records
  pub xor : (name : PageName)
      → xor_of deltas name ≡ flipped (owed_byte has_ended name (stamp_of images name)) zeros records

-- the page with what each part toggles on it
abbrev pub combined : List (List PageDelta) → PageImage → PageImage
combined parts page =
    record page {
      bytes = flipped byte_at page.bytes
          (map (λ deltas. xor_of deltas (record { table = page.table; page = page.page })) parts);
    }
