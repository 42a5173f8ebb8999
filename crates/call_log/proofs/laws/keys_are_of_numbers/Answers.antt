use Rattle.call_log.proofs.Fitting.{key_number_fits, number_again}
use Rattle.call_log.proofs.Standings.{key_again}
use Rattle.call_log.proofs.laws.keys_are_of_numbers.Goals as goal

pub returns-clause-number : goal.returns-clause-number
returns-clause-number c = number_again

pub returns-clause-key : goal.returns-clause-key
returns-clause-key c = key_again

pub returns-clause-fits : goal.returns-clause-fits
returns-clause-fits c = key_number_fits
