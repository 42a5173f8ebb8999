use Rattle.std.proofs.Common.{rules, ◌≡◌, ℕ, ◌+◌, ◌∙◌, ap, refl, sym, subst, arith, length, set, get_or-set_same, get_or-set_other}
use mathlib.Core.Logic.{dite}
use native.Mathlib.Decide.{ℕ_discrete}
use Rattle.std.specs.Prelude.{slice_index}
use Rattle.olfit_rule.specs.Tree.{node_of, word_of}
use Rattle.olfit_rule.proofs.Keeps.{same_words}
use Rattle.olfit_rule.proofs.Peeking.{peeks_none, peeks_on, seen_still, still_before}
use Rattle.olfit_rule.proofs.steps.gather.Goals as goal

pub loop-i-init : goal.loop-i-init
loop-i-init c = record { peeks = peeks_none _; reading = λ first r. r; long = search rules; words = λ still k l. absurd (omega arith) }

pub peek-requires-clause-reading : goal.peek-requires-clause-reading
peek-requires-clause-reading c = (c.requires.reading.0, c.loop-i.invariant.reading c.requires.reading.0 c.requires.reading.1)

pub loop-i-preserved : goal.loop-i-preserved
loop-i-preserved c =
    let before = c.loop-i.invariant.reading c.requires.reading.0 c.requires.reading.1 in
    let seen = seen_still _ _ c.loop-i.invariant.peeks in
    let long = c.loop-i.invariant.long in record {
      peeks = peeks_on _ _ _ c.loop-i.invariant.peeks c.peek.ensures.peeks;
      reading = λ first r. c.peek.ensures.reading first (c.loop-i.invariant.reading first r);
      long = search rules;
      words = λ still k l. dite (ℕ_discrete k c.loop-i.i)
          (λ e. ap (λ (z : ℕ). slice_index (set c.loop-i.into c.loop-i.i c.peek.result) z) e ∙ (get_or-set_same c.loop-i.into c.loop-i.i c.peek.result 0 (omega (arith, long))
          ∙ (c.peek.ensures.word still ∙ (λ j. word_of (seen j).image c.args.node (sym e j)))))
          (λ other. get_or-set_other c.loop-i.into c.loop-i.i k c.peek.result 0 other ∙ c.loop-i.invariant.words (still_before _ _ _ _ _ before c.peek.ensures.peeks still) k (omega arith));
    }

pub returns-clause-words : goal.returns-clause-words
returns-clause-words c = λ still. same_words c.loop-i.into (node_of c.args.me.now.me.0.seen.image c.args.node) (c.loop-i.invariant.long ∙ sym c.requires.reading.1.wide) (λ k l. c.loop-i.invariant.words still k (omega arith))
