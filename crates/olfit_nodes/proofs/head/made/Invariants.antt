use Rattle.std.proofs.Common.{◌≡◌, take}
use Rattle.std.specs.Prelude.{slice_index}
use Rattle.olfit_nodes.specs.Nodes.{IsClear, entries_of, level_of, low_of, right_of}
use Rattle.olfit_nodes.proofs.head.made.Given as goal

abbrev pub invariant-loop-place : goal.invariant-loop-place
invariant-loop-place l = record {
  low : low_of l.words ≡ l.fn.low;
  right : right_of l.words ≡ l.fn.right;
  level : level_of l.words ≡ l.fn.level;
  entries : entries_of l.words ≡ take l.place l.entries;
  version : slice_index l.words 0 ≡ 0;
  clear : IsClear l.words;
}
