use Rattle.plain_model.proofs.MeaningLaws.{refused_leaves}
use Rattle.plain_model.proofs.laws.refused_changes_nothing.Goals as goal

pub returns : goal.returns
returns c = refused_leaves
