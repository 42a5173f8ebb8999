use Rattle.std.proofs.Common.{◌∙◌, sym, ap, take}
use Rattle.key_space.specs.Locks.{in_the_way, least_owner}
use Rattle.lock_table.specs.declared.place.Place.{Place}
use Rattle.lock_table.specs.Orders.{held_at}
use Rattle.lock_table.proofs.LocksAt.{held_more, held_no_more}
use Rattle.lock_table.proofs.places.least_owner.Goals.{in-Some, in_default}
use Rattle.lock_table.proofs.places.least_owner.Goals as goal

pub loop-place-preserved : goal.loop-place-preserved
loop-place-preserved c =
    let owned = c.args.owned.now in
    let places = c.args.places.now in
    let i = c.loop-place.place-index in
    let none : Place = record { who = 0; nth = 0 } in
    let test = in_the_way c.args.older c.args.ask.now in
    elim c.match-lock_at.branch [
      | in-Some w ↦
          w.least-is ∙ w.least_with-least.ensures (held_at owned (take i places)) c.loop-place.invariant
          ∙ sym (ap (least_owner test) (held_more owned places i none w.in-Some.h.now c.loop-place-test.true w.in-Some.ensures))
      | in_default w ↦
          w.least-is ∙ c.loop-place.invariant
          ∙ sym (ap (least_owner test) (held_no_more owned places i none c.loop-place-test.true w.in_default.ensures))
    ]
