use Rattle.turnstile.specs.Words.{name_of}
use Rattle.test_threads.proofs.lane.count_behind_a_lock.Given as goal

abbrev pub ghosts-count_by_lock : goal.ghosts-count_by_lock
ghosts-count_by_lock g a = record { name = name_of a.room.now }
