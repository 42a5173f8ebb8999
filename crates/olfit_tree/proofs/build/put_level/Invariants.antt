use Rattle.std.proofs.Common.{◌≡◌}
use Rattle.olfit_tree.specs.Build.{HasPut, leads}
use Rattle.olfit_tree.proofs.build.put_level.Given as goal

abbrev pub invariant-loop-i : goal.invariant-loop-i
invariant-loop-i l =
    HasPut l.level l.first l.each l.entries l.fn.words.items l.words.items l.i
    × (l.above.items ≡ leads l.first l.each l.entries l.i)
