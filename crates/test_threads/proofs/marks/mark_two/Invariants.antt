use Rattle.std.proofs.Common.{[], ◌∷◌}
use Rattle.test_threads.proofs.marks.mark_two.Given as goal

abbrev pub ghosts-leave_marks : goal.ghosts-leave_marks
ghosts-leave_marks g a = record { added = a.one ∷ a.two ∷ [] }
