use Rattle.std.proofs.Common.{◌+◌, ◌-◌, ◌%◌, ◌^◌, ◌∙◌, arith}
use Rattle.turnstile.proofs.Keeps.{rests_keep}
use Rattle.turnstile.proofs.steps.sleep.Goals as goal

pub fetch_add-requires : goal.fetch_add-requires
fetch_add-requires g c = let q = c.requires in let e = q.1 in (q.0, omega arith, rests_keep g.M.Told.leads g.M.Told.owner c.args.door.now.key c.args.door.now.table_id.slots c.args.seat.now.id c.args.seat.now.me (λ n. (n + 1) % 2 ^ 64))

pub fetch_sub-requires : goal.fetch_sub-requires
fetch_sub-requires g c = let q = c.requires in let e = q.1 in let x = c.fetch_add.ensures in (x.0 ∙ q.0, omega arith, rests_keep g.M.Told.leads g.M.Told.owner c.args.door.now.key c.args.door.now.table_id.slots c.fetch_add.new.seat.id c.fetch_add.new.seat.me (λ n. (n + (2 ^ 64 - 1)) % 2 ^ 64))
