use Rattle.std.proofs.Common.{[], ◌∷◌}
use Rattle.olfit_nodes.specs.Nodes.{entry_at}
use Rattle.olfit_rule.specs.declared.view.Change.TheVariants.{Drop}
use Rattle.olfit_change.proofs.keys.take.Given as goal

abbrev pub ghosts-take_entry : goal.ghosts-take_entry
ghosts-take_entry a = record { changes = Drop (entry_at a.words a.place).0 ∷ [] }
