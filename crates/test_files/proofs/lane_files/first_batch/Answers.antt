use Rattle.std.proofs.Common.{List, ℕ, []}
use Rattle.lane_writer.proofs.Left.{both_ok}
use Rattle.test_files.proofs.lane_files.first_batch.Goals as goal

pub returns-clause-open : goal.returns-clause-open
returns-clause-open g c = both_ok c.force.result c.force.ensures.appended c.force.ensures.stage (λ appended stage. (_, appended 6 [] c.in_ok-reset.ensures.empty, stage 6 11 c.in_ok-reset.ensures.stage))
