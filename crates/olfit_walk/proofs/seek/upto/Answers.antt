use Rattle.std.proofs.Common.{rules, ◌≡◌, ◌∙◌, ◌≤◌, ◌<◌, ◌+◌, ◌*◌, ℕ, sym, ap, arith, subst, le_refl}
use mathlib.Core.Logic.{dite}
use native.Mathlib.Decide.{ℕ_discrete}
use Rattle.olfit_nodes.specs.Nodes.{entry_at, number_of, count_of}
use Rattle.olfit_rule.specs.Tree.{node_of, word_of}
use Rattle.olfit_rule.proofs.Peeking.{peeks_none, peeks_on, seen_still, still_before}
use Rattle.olfit_walk.proofs.seek.upto.Goals as goal

pub loop-place-init : goal.loop-place-init
loop-place-init c = record { peeks = peeks_none _; reading = λ first r. r; below = λ still i l. absurd (omega arith) }

pub number_at-requires-clause-reading : goal.number_at-requires-clause-reading
number_at-requires-clause-reading c = (c.requires.reading.0, c.loop-place.invariant.reading c.requires.reading.0 c.requires.reading.1)

pub loop-place-preserved : goal.loop-place-preserved
loop-place-preserved c =
    let before = c.loop-place.invariant.reading c.requires.reading.0 c.requires.reading.1 in
    let seen = seen_still _ _ c.loop-place.invariant.peeks in record {
      peeks = peeks_on _ _ _ c.loop-place.invariant.peeks c.number_at.ensures.peeks;
      reading = λ first r. c.number_at.ensures.reading first (c.loop-place.invariant.reading first r);
      below = λ still i l. dite (ℕ_discrete i c.loop-place.place)
          (λ e. let is = c.number_at.ensures.number still in
          let here = ap (λ (t : _). (entry_at (node_of t.image c.args.node) c.loop-place.place).0) seen in
          subst (λ (z : ℕ). (entry_at (node_of c.args.me.now.me.0.seen.image c.args.node) z).0 ≤ c.args.key) (sym e) (omega (arith, is, here)))
          (λ other. c.loop-place.invariant.below (still_before _ _ _ _ _ before c.number_at.ensures.peeks still) i (omega arith));
    }
