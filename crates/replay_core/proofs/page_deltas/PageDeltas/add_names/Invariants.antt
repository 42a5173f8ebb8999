use Rattle.std.proofs.Common.{◌≡◌, ◌||◌, map}
use Rattle.std.specs.Map.Iter.{deref}
use Rattle.xor_records.specs.Replay.{PageName}
use Rattle.replay_core.specs.Pages.{has_key}
use Rattle.replay_core.proofs.page_deltas.PageDeltas.add_names.Given as goal

abbrev pub invariant-loop-key : goal.invariant-loop-key
invariant-loop-key l =
    (name : PageName) → has_key l.names name ≡ (has_key (map deref l.yielded) name || has_key l.fn.names name)
