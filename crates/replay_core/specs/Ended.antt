-- A set of transactions, as the list of their numbers.
use Rattle.std.specs.Prelude.{ℕ, Bool, List, ◌==◌}
use Rattle.std.specs.List.{list_any}

-- the transaction is one of these
abbrev pub is_in : List ℕ → ℕ → Bool
is_in txns txn = list_any (λ t. txn == t) txns
