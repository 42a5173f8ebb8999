use Rattle.olfit_tree.proofs.Seen.{Goes}
use Rattle.olfit_tree.proofs.reader.Reader.get.Given as goal

abbrev pub invariant-loop : goal.invariant-loop
invariant-loop g l = Goes l.fn.self l.self
