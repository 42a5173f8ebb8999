use Rattle.std.proofs.Common.{◌≡◌, ◌||◌, take}
use Rattle.std.specs.List.{list_any}
use Rattle.xor_records.specs.Replay.{PageName, shows}
use Rattle.replay_core.specs.Pages.{has_key}
use Rattle.replay_core.proofs.page_names.PageNames.put_images.Given as goal

abbrev pub invariant-loop-image : goal.invariant-loop-image
invariant-loop-image l =
    (name : PageName) → has_key l.self name ≡ (list_any (shows name) (take l.image-index l.images) || has_key l.fn.self name)
