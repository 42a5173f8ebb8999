use Rattle.row_types.proofs.CheckedSlots.{row_held, none_held}
use Rattle.row_types.proofs.page.slots_hold_their_rows.Goals as goal

pub returns-clause-sound : goal.returns-clause-sound
returns-clause-sound c = λ columns row narrow fits. (row_held columns row narrow fits).0

pub returns-clause-held : goal.returns-clause-held
returns-clause-held c = λ columns row narrow fits. (row_held columns row narrow fits).1

pub returns-clause-empty : goal.returns-clause-empty
returns-clause-empty c = λ columns. (none_held columns).0

pub returns-clause-none : goal.returns-clause-none
returns-clause-none c = λ columns. (none_held columns).1
