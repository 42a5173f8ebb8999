use Rattle.std.proofs.Common.{rules}
use Rattle.olfit_rule.proofs.Keeps.{splits}
use Rattle.olfit_rule.proofs.steps.reader.Goals as goal

pub split_seat-requires : goal.split_seat-requires
split_seat-requires c = (search rules, search rules, splits _ _)
