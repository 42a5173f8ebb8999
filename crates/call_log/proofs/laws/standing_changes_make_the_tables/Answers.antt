use Rattle.call_log.proofs.Fitting.{changes_fit}
use Rattle.call_log.proofs.Standings.{changes_are_played, tables_are_played}
use Rattle.call_log.proofs.laws.standing_changes_make_the_tables.Goals as goal

pub returns-clause-tables : goal.returns-clause-tables
returns-clause-tables c = tables_are_played

pub returns-clause-plays : goal.returns-clause-plays
returns-clause-plays c = changes_are_played

pub returns-clause-fit : goal.returns-clause-fit
returns-clause-fit c = changes_fit
