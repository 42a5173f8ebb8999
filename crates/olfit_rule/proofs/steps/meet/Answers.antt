use Rattle.std.proofs.Common.{rules}
use Rattle.olfit_rule.proofs.Keeps.{splits, joins}
use Rattle.olfit_rule.proofs.steps.meet.Goals as goal

pub split_seat-note-requires : goal.split_seat-note-requires
split_seat-note-requires c = (search rules, search rules, splits _ _)

pub join_seat-requires : goal.join_seat-requires
join_seat-requires c = (search rules, search rules, search rules, search rules, joins _ _ _ _)
