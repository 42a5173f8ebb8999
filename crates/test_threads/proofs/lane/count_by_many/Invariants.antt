use Rattle.turnstile.specs.Words.{name_of}
use Rattle.test_threads.proofs.lane.count_by_many.Given as goal

abbrev pub ghosts-count_by_lanes : goal.ghosts-count_by_lanes
ghosts-count_by_lanes g a = record { name = name_of a.room.now }
