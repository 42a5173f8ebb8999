use Rattle.std.proofs.Common.{◌≡◌, ℕ, take}
use Rattle.xor_records.specs.Replay.{ended}
use Rattle.replay_core.specs.Ended.{is_in}
use Rattle.replay_core.proofs.ended_txns.ended.Given as goal

abbrev pub invariant-loop-rec : goal.invariant-loop-rec
invariant-loop-rec l = (t : ℕ) → is_in l.txns t ≡ ended (take l.rec-index l.records) t
