use Rattle.std.proofs.Common.{drop}
use Rattle.std.specs.List.{AllByRecursion}
use Rattle.plain_model.specs.Blocks.{IsPlain, RunsSoFar}
use Rattle.plain_model.proofs.plain.run_inside.Given as goal

abbrev pub invariant-loop-text : goal.invariant-loop-text
invariant-loop-text l = record {
  so_far : RunsSoFar l.t.statements (drop l.text-index l.statements) l.t.end l.tables l.replies.items l.now;
  plain : AllByRecursion IsPlain l.replies.items;
}
