use Rattle.std.proofs.Common.{◌<◌, ap, ◌∙◌, subst, arith}
use Rattle.turnstile.proofs.Keeps.{learns_keep}
use Rattle.turnstile.proofs.Passing.{pass_splits}
use Rattle.turnstile.proofs.turnstile.Turnstile.pass.Goals as goal

pub split_seat-seat-requires : goal.split_seat-seat-requires
split_seat-seat-requires g c = let p = c.requires.pass in let f = c.requires.first in let m = p.made_is in let s = c.args.self.now.sized.0 in (
  p.table_is,
  omega arith,
  pass_splits g.M.Told.leads g.M.Told.owner c.args.self.now.table.shared.key c.args.from.now.seat.id c.args.from.now.seat.me.0 p.stage_is (subst (λ n. 0 < n) m f.0) (subst (λ n. n < 64) m f.1),
)

pub load-requires : goal.load-requires
load-requires g c = let p = c.requires.pass in let x = c.split_seat-seat.ensures in let s = c.args.self.now.sized.0 in
    (x.3 ∙ p.table_is, omega arith, learns_keep g.M.Told.leads g.M.Told.owner c.args.self.now.table.shared.key c.args.self.now.table.shared.table_id.slots c.split_seat-seat.result.id c.split_seat-seat.result.me (ap (λ m. m.0.stage) x.4))
