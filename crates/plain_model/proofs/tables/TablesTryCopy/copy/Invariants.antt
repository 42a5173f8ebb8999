use Rattle.std.proofs.Common.{◌≡◌, take}
use Rattle.plain_model.proofs.tables.TablesTryCopy.copy.Given as goal

abbrev pub invariant-loop-list : goal.invariant-loop-list
invariant-loop-list l = l.lists.items ≡ take l.list-index l.own
