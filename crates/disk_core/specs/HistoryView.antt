-- What callers see of the record of the change calls.
use Rattle.std.specs.Prelude.{ℕ, List}
use Rattle.disk_core.specs.History.{Change}

-- the change calls, the latest of which comes first, and the room for more
pub record HistoryView : Type 0 where
  pub calls : List Change
  pub room : ℕ
