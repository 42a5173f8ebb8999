use Rattle.plain_model.proofs.MeaningLaws.{means_are_tables}
use Rattle.plain_model.proofs.laws.means_tables.Goals as goal

pub returns : goal.returns
returns c = means_are_tables c.out_of_memory_is_no_misfit.ensures
