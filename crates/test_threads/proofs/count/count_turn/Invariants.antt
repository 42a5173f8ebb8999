use Rattle.std.proofs.Common.{[], ◌∷◌}
use Rattle.std.specs.Prelude.{if◌then◌else◌}
use Rattle.test_threads.proofs.count.count_turn.Given as goal

abbrev pub ghosts-leave_counted : goal.ghosts-leave_counted
ghosts-leave_counted g a = record { added = if a.done then (a.done ∷ []) else [] }
