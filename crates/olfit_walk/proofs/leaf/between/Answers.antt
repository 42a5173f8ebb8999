use Rattle.std.proofs.Common.{◌≡◌, ◌∙◌, length, arith, ap}
use Rattle.olfit_walk.specs.Looks.{entries_of_keys}
use Rattle.olfit_walk.proofs.Pieces.{taken, left_below, left_above}
use Rattle.olfit_walk.proofs.leaf.between.Goals as goal
use Rattle.olfit_walk.proofs.leaf.between.Goals.{then-from-number+then-number-upto, else-from-number, else-from-number-via-then-from-number+else-number-upto, else-from-number-via-else-from-number}

pub loop-place-preserved : goal.loop-place-preserved
loop-place-preserved c =
    let few = c.loop-place.invariant.few in let so = c.loop-place.invariant.items in
    let from = c.args.from.number in let upto = c.args.upto.number in let place = c.loop-place.place in
    elim c.if-from-number.branch [
      | then-from-number+then-number-upto w ↦
          let items : c.if-from-number.entries.items ≡ _ = ap (λ a. a.items) w.entries-is ∙ w.push.ensures.items in
          let long : length c.if-from-number.entries.items ≡ length w.push.new.self.items = ap (λ a. length a.items) w.entries-is in
          let more = w.push.ensures.len in record {
            few = omega (arith, long, more);
            items = ap entries_of_keys items ∙ taken c.args.words.now from upto place c.loop-place.entries.items c.entry-number.result so c.entry-number.ensures w.if-from-number.true w.if-number-upto.true;
          }
      | else-from-number w ↦
          let items : c.if-from-number.entries.items ≡ _ = ap (λ a. a.items) w.entries-is in
          let long = ap length items in
          elim w.else-from-number.branch [
            | else-from-number-via-then-from-number+else-number-upto w' ↦ record {
              few = omega arith;
              items = ap entries_of_keys items ∙ left_above c.args.words.now from upto place c.loop-place.entries.items c.entry-number.result so c.entry-number.ensures (omega arith);
            }
            | else-from-number-via-else-from-number w' ↦ record {
              few = omega arith;
              items = ap entries_of_keys items ∙ left_below c.args.words.now from upto place c.loop-place.entries.items c.entry-number.result so c.entry-number.ensures (omega arith);
            }
          ]
    ]
