use Rattle.std.proofs.Common.{rules}
use Rattle.sql_exec.proofs.Totalling.{not_fits}
use Rattle.sql_exec.proofs.totals.with_part.Goals as goal

pub returns-clause-over : goal.returns-clause-over
returns-clause-over c = λ none. not_fits _ (λ fits. search (rules, none, fits))
