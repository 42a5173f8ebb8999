-- The pages that a restart from images and records gives.
use Rattle.std.specs.Prelude.{List, ◌≡◌, All}
use Rattle.std.specs.List.{list_any, AllZip}
use Rattle.std.specs.List.Sorted.{IsPermutation}
use Rattle.xor_records.specs.Record.{Record}
use Rattle.xor_records.specs.Parity.{joined}
use Rattle.xor_records.specs.Replay.{PageName, PageImage, ended, shows, stamp_of, bytes_of, restarted, is_there}
use Rattle.replay_core.specs.Pages.{IsRising, IsWhole}
use Rattle.replay_core.specs.Deltas.{PageDelta, AreDeltas}

-- The pages are those that have an image or a change, in rising order. Each has the bytes that images and
-- records stand for, which are zeros where the page isn't there, and keeps the stamp of its image.
pub record IsRestart (images : List PageImage) (records : List Record) (pages : List PageImage) : Type 0 where
  pub rising : IsRising pages
  pub there : (name : PageName) → list_any (shows name) pages ≡ is_there images records name
  pub bytes : (name : PageName) → bytes_of pages name ≡ restarted images records name
  pub stamps : (name : PageName) → stamp_of pages name ≡ stamp_of images name
  pub whole : All IsWhole pages

-- the parts are the deltas of a split of the records: each record is in one part, once, in any order
pub record AreParts (images : List PageImage) (records : List Record) (parts : List (List PageDelta)) : Type 0 where
  pub split : List (List Record)
  pub same : IsPermutation records (joined split)
  pub deltas : AllZip (AreDeltas images (ended records)) split parts
