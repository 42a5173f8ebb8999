use Rattle.std.proofs.Common.{arith}
use Rattle.turnstile.proofs.Keeps.{looks_keep}
use Rattle.turnstile.proofs.steps.look.Goals as goal

pub load-requires : goal.load-requires
load-requires g c = let q = c.requires.0 in let t = c.requires in let e = q.1 in (q.0, omega arith, looks_keep g.M.Told.leads g.M.Told.owner c.args.door.now.key c.args.door.now.table_id.slots c.args.seat.now.id c.args.seat.now.me q.2 t.3)
