use Rattle.std.proofs.Common.{sym, ap, ◌∙◌, subst, refl, arith, length}
use Rattle.turnstile.specs.History.{Begins, Owned}
use Rattle.turnstile.specs.Steps.{joined}
use Rattle.turnstile.proofs.Passing.{note_splits, view_joins}
use Rattle.turnstile.proofs.Keeps.{learns_keep}
use Rattle.atomic_table.proofs.Lists.{at_last}
use lib.ListN.{get_elem?}
use Rattle.turnstile.proofs.turnstile.Turnstile.tell.Goals as goal

pub split_seat-note-requires : goal.split_seat-note-requires
split_seat-note-requires g c = let p = c.requires.a in let s = c.args.self.now.sized.0 in (p.table_is, omega arith, note_splits g.M.Told.leads g.M.Told.owner c.args.self.now.table.shared.key c.args.a.now.seat.id c.args.a.now.seat.me.0 p.stage_is)

pub join_seat-requires : goal.join_seat-requires
join_seat-requires g c = let p = c.requires.b in let x = c.split_seat-note.ensures in let s = c.args.self.now.sized.0 in (
  p.table_is,
  x.3 ∙ c.requires.a.table_is,
  ap (λ m. m.1) x.4,
  omega arith,
  view_joins g.M.Told.leads g.M.Told.owner c.args.self.now.table.shared.key c.args.b.now.seat.id c.args.b.now.seat.me.0 c.split_seat-note.result.id c.split_seat-note.result.me.0 p.stage_is (ap (λ m. m.0.stage) x.4),
)

pub load-requires : goal.load-requires
load-requires g c = let p = c.requires.b in let y = c.join_seat.ensures in let s = c.args.self.now.sized.0 in
    (y.0 ∙ p.table_is, omega arith, learns_keep g.M.Told.leads g.M.Told.owner c.args.self.now.table.shared.key c.args.self.now.table.shared.table_id.slots c.join_seat.new.seat.id c.join_seat.new.seat.me (ap (λ m. m.0.stage) y.2 ∙ p.stage_is))

pub returns-clause-seen : goal.returns-clause-seen
returns-clause-seen g c = let x = c.split_seat-note.ensures in let y = c.join_seat.ensures in let z = c.load.ensures.2 in let v = c.args.b.now.seat.me.0 in let a = c.args.a.now.seat.me.0 in
    let j = ap (λ m. m.0) y.2 ∙ ap (λ m. joined v m.0) x.4 in let h = z.0 in let is = sym (ap (λ m. m.0.seen) z.1) in let b = z.2 in (
      subst (λ t. Begins t v.seen) is (subst (λ w. Begins h w.seen) j b.0),
      subst (λ t. Begins t a.seen) is (b.1 (length v.heard) a.seen (ap (λ w. get_elem? w.heard (length v.heard)) j ∙ at_last v.heard a.seen (length v.heard) refl)),
    )

pub returns-clause-owned : goal.returns-clause-owned
returns-clause-owned g c = let z = c.load.ensures.2 in subst (Owned g.M.Told.owner) (sym (ap (λ m. m.0.seen) z.1)) z.4
