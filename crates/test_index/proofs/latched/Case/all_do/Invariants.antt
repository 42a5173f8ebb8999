use Rattle.std.proofs.Common.{◌≡◌, length}
use Rattle.olfit_walk.specs.Looks.{CanLook}
use Rattle.test_index.proofs.latched.Case.all_do.Given as goal

abbrev pub invariant-loop-below : goal.invariant-loop-below
invariant-loop-below l = CanLook l.shared.table_id 8 l.me × (l.self.keys ≡ length l.me.me.0.told)
