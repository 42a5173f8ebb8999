use Rattle.std.proofs.Common.{List, ℕ, [], inl}
use Rattle.test_files.proofs.lane_files.batches.Goals as goal

pub force-requires-2-clause-open : goal.force-requires-2-clause-open
force-requires-2-clause-open c = inl (c.args.generation, _, c.in_ok-force.ensures.appended c.args.generation [] c.in_ok-reset.ensures.empty)
