use Rattle.std.proofs.Common.{◌≡◌, ℕ, ◌+◌, ◌<◌, ◌≤◌, take, drop}
use Rattle.olfit_nodes.specs.Nodes.{entry_at}
use Rattle.olfit_nodes.proofs.entries.remove_at.Given as goal

abbrev pub invariant-loop-i : goal.invariant-loop-i
invariant-loop-i l = record {
  below : (k : ℕ) → k < l.place → entry_at l.words k ≡ entry_at l.fn.words k;
  moved : (k : ℕ) → l.place ≤ k → k + 1 < l.i → entry_at l.words k ≡ entry_at l.fn.words (k + 1);
  above : (k : ℕ) → l.i ≤ k → entry_at l.words k ≡ entry_at l.fn.words k;
  head : take 7 l.words ≡ take 7 l.fn.words;
  rest : drop 55 l.words ≡ drop 55 l.fn.words;
}
