use Rattle.std.proofs.Common.{arith}
use Rattle.turnstile.proofs.Keeps.{draws_keep}
use Rattle.turnstile.proofs.steps.draw.Goals as goal

pub fetch_add-requires : goal.fetch_add-requires
fetch_add-requires g c = let q = c.requires.seat in let p = c.requires.pass in let e = q.1 in (q.0, omega arith, draws_keep g.M.Told.leads g.M.Told.owner c.args.door.now.key c.args.door.now.table_id.slots c.args.seat.now.id c.args.seat.now.me q.2 p.0 p.1)
