use Rattle.std.proofs.Common.{◌≡◌, ℕ, ◌-◌, ◌<◌, ◌≤◌, take, drop}
use Rattle.olfit_nodes.specs.Nodes.{entry_at, count_of}
use Rattle.olfit_nodes.proofs.entries.insert_at.Given as goal

abbrev pub invariant-loop-i : goal.invariant-loop-i
invariant-loop-i l = record {
  place : l.place ≤ l.i;
  below : (k : ℕ) → k ≤ l.i → entry_at l.words k ≡ entry_at l.fn.words k;
  moved : (k : ℕ) → l.i < k → k ≤ count_of l.fn.words → entry_at l.words k ≡ entry_at l.fn.words (k - 1);
  head : take 7 l.words ≡ take 7 l.fn.words;
  rest : drop 55 l.words ≡ drop 55 l.fn.words;
}
