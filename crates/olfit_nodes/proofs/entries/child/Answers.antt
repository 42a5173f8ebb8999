use Rattle.std.proofs.Common.{◌∙◌, nat_le, Some, arith, sym, ap}
use Rattle.std.proofs.lemmas.List.Sums.{count_by-le-length}
use Rattle.olfit_nodes.specs.Nodes.{Entry, entries_of}
use Rattle.olfit_nodes.proofs.Places.{length-entries}
use Rattle.olfit_nodes.proofs.Searches.{child_none, child_some}
use Rattle.olfit_nodes.proofs.entries.child.Goals as goal

pub returns-then-below-eq0 : goal.returns-then-below-eq0
returns-then-below-eq0 c = child_none c.args.words.now c.args.key c.requires.rises (sym c.place_of-below.ensures ∙ c.if-below-eq0.true)

pub entry-requires : goal.entry-requires
entry-requires c = let n = length-entries c.args.words.now in let m = count_by-le-length (λ (e : Entry). nat_le e.0 c.args.key) (entries_of c.args.words.now) in omega arith

pub returns : goal.returns
returns c = ap (λ (e : Entry). Some e.1) c.entry.ensures ∙ child_some c.args.words.now c.args.key c.place_of-below.result c.requires.rises c.place_of-below.ensures (omega arith)
