use Rattle.std.proofs.Common.{[], ◌∷◌}
use Rattle.test_threads.proofs.marks.mark.Given as goal

abbrev pub ghosts-leave_mark : goal.ghosts-leave_mark
ghosts-leave_mark g a = record { added = a.mark ∷ [] }
