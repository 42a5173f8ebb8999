use Rattle.sql_check.proofs.RealFaults.{misfit_is_real}
use Rattle.sql_check.proofs.laws.out_of_memory_is_no_misfit.Goals as goal

pub returns : goal.returns
returns c = misfit_is_real
