use Rattle.std.proofs.Common.{[], ◌∷◌}
use Rattle.std.specs.Prelude.{if◌then◌else◌}
use Rattle.test_threads.proofs.pile.put.Given as goal

abbrev pub ghosts-leave_put : goal.ghosts-leave_put
ghosts-leave_put g a = record { added = if a.done then (a.x ∷ []) else [] }
