use Rattle.std.proofs.Common.{◌≡◌, ◌<◌, ℕ, length, get_or}
use Rattle.olfit_rule.specs.Tree.{word_of}
use Rattle.olfit_rule.specs.Rule.{IsSame}
use Rattle.olfit_rule.proofs.writer.own_node.Given as goal

abbrev pub invariant-loop-i : goal.invariant-loop-i
invariant-loop-i l = IsSame l.initial.me l.me × (l.me.me.0 ≡ l.initial.me.me.0) × (length l.words ≡ 64) × ((k : ℕ) → k < l.i → get_or l.words k 0 ≡ word_of l.initial.me.me.0.seen.image l.node k)
