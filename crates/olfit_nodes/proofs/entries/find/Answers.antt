use Rattle.std.proofs.Common.{◌∙◌, arith, sym, ap}
use Rattle.olfit_nodes.specs.Nodes.{Entry}
use Rattle.olfit_nodes.proofs.Searches.{found, absent}
use Rattle.olfit_nodes.proofs.entries.find.Goals as goal

pub returns-then-entry-key : goal.returns-then-entry-key
returns-then-entry-key c = found c.args.words.now c.args.key c.loop-place.place (omega arith) c.loop-place.invariant (ap (λ (e : Entry). e.0) (sym c.entry.ensures) ∙ c.if-entry-key.true)

pub returns : goal.returns
returns c = absent c.args.words.now c.args.key (λ k h. c.loop-place.invariant k (omega arith))
