use Rattle.std.proofs.Common.{◌≡◌, ◌++◌, [], List, length}
use Rattle.turnstile.specs.declared.pass.PassWith.{PassWith}
use Rattle.turnstile.specs.declared.view.Stage.TheVariants.{Idle}
use Rattle.turnstile.specs.Words.{name_of}
use Rattle.turnstile.specs.Passes.{ArePasses}
use Rattle.turnstile.proofs.Gathering.{Gathers}
use Rattle.turnstile.proofs.turnstile.Turnstile.join_all.Given as goal

abbrev pub invariant-loop-pass : goal.invariant-loop-pass
invariant-loop-pass g l = (l.seat.table_id ≡ l.initial.seat.table_id) × (l.seat.me.0.stage ≡ Idle) × (l.seat.me.1 ≡ []) × ArePasses (name_of l.self) l.passes.items
    × ((taken : List (PassWith g.row.M.Denot g.row.M-Entry.Denot)) × (l.initial.passes.items ≡ l.passes.items ++ taken) × Gathers l.initial.seat.me.0 taken l.seat.me.0)

abbrev pub decreases-loop-pass : goal.decreases-loop-pass
decreases-loop-pass g l = length l.passes.items
