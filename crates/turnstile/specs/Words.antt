-- Words of clauses that name a turnstile or a turn. In this crate they are cited inside `impl` blocks alone.
use Rattle.std.specs.Prelude.{◌≡◌, ℕ, List}
use Rattle.std.specs.Borrow.{MutBor}
use Rattle.turnstile.specs.declared.pass.PassWith.{PassWith}
use Rattle.turnstile.specs.declared.turnstile.Turnstile.{Turnstile}
use Rattle.turnstile.specs.declared.turnstile.Turn.{Turn}
use Rattle.turnstile.specs.Passes.{Name, seen}

module _ {M E : Type 0} where
  abbrev pub name_of : Turnstile M E → Name M
  name_of t = record { table = t.table.shared.table_id; first = t.table.shared.key }

  -- the value that was given to `new`
  abbrev pub first_of : Turnstile M E → M
  first_of t = t.table.shared.key

  -- the pass that makes the turn, as it is now
  abbrev pub pass_of : Turn M E → PassWith M E
  pass_of turn = turn.pass.now

  -- the turnstile at which the turn is made
  abbrev pub at : Turn M E → Name M
  at turn = name_of turn.turnstile.now

  -- what the pass has seen, which during a turn is the whole history
  abbrev pub history : Turn M E → List (ℕ × E)
  history turn = seen turn.pass.now

  -- the turn borrows this pass
  abbrev pub Borrows : Turn M E → MutBor (PassWith M E) → Type 0
  Borrows turn pass = turn.pass.ghost_name ≡ pass.ghost_name
