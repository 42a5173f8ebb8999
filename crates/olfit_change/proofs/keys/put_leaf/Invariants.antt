use Rattle.std.proofs.Common.{[], ◌∷◌}
use Rattle.olfit_rule.specs.declared.view.Change.TheVariants.{Add}
use Rattle.olfit_change.proofs.keys.put_leaf.Given as goal

abbrev pub ghosts-put_entry : goal.ghosts-put_entry
ghosts-put_entry a = record { changes = Add a.key a.value ∷ [] }

abbrev pub ghosts-split_node : goal.ghosts-split_node
ghosts-split_node a = record { changes = Add a.key a.value ∷ [] }
