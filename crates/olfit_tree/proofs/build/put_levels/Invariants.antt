use Rattle.std.proofs.Common.{length}
use Rattle.olfit_tree.proofs.Growing.{Grows}
use Rattle.olfit_tree.proofs.build.put_levels.Given as goal

abbrev pub invariant-levels : goal.invariant-levels
invariant-levels l = Grows l.rows l.each l.level l.entries.items l.words.items

abbrev pub decreases-levels : goal.decreases-levels
decreases-levels l = length l.entries.items
