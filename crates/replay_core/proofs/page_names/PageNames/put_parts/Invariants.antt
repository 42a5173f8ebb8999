use Rattle.std.proofs.Common.{◌≡◌, ◌||◌, take}
use Rattle.std.specs.List.{list_any}
use Rattle.xor_records.specs.Replay.{PageName}
use Rattle.replay_core.specs.Pages.{has_key}
use Rattle.replay_core.specs.Deltas.{has_delta}
use Rattle.replay_core.proofs.page_names.PageNames.put_parts.Given as goal

abbrev pub invariant-loop-part : goal.invariant-loop-part
invariant-loop-part l =
    (name : PageName)
    → has_key l.self name
    ≡ (list_any (λ part. has_delta part name) (take l.part-index l.parts) || has_key l.fn.self name)
