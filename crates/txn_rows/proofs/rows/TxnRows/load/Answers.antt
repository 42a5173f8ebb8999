use Rattle.std.proofs.Common.{◌≡◌, Bool, List, ◌∷◌, length, sym, ap, subst, ◌∙◌, arith, rules}
use Rattle.std.specs.List.{AllByRecursion}
use Rattle.row_types.specs.declared.definition.TableDef.{TableDef}
use Rattle.op_log.specs.Changes.{IsChange}
use Rattle.op_log.specs.declared.change.RowChange.{RowChange}
use Rattle.call_log.specs.Played.{tables_behind_change}
use Rattle.txn_rows.specs.Rows.{IsTried, defs_of}
use Rattle.txn_rows.proofs.Ends.{LoadsOn, loads_next, loads_stop}
use Rattle.txn_rows.proofs.rows.TxnRows.load.Goals as goal

pub returns-then-not-branch-clause-played : goal.returns-then-not-branch-clause-played
returns-then-not-branch-clause-played c = λ tables before idle.
    let state = c.loop-change.invariant.loads tables before idle in
    let items : c.loop-change.change-iterator.rest.items ≡ c.in-Some.change ∷ c.next.new.self.rest.items = search (rules, c.in-Some.ensures.steps) in
    let tried = subst (λ (b : Bool). IsTried c.play.new.self state.0 c.in-Some.change b) c.if-not-branch.true (c.in_ok-play.ensures.played state.0 state.1) in
    loads_stop tables c.args.batch state.0 c.in-Some.change c.next.new.self.rest.items c.loop-change.index (subst (λ (cs : List RowChange). LoadsOn tables c.args.batch state.0 cs c.loop-change.index) items state.2) tried.0

pub loop-change-preserved : goal.loop-change-preserved
loop-change-preserved c =
    let items : c.loop-change.change-iterator.rest.items ≡ c.in-Some.change ∷ c.next.new.self.rest.items = search (rules, c.in-Some.ensures.steps) in
    let len = ap (λ (cs : List RowChange). length cs) items in
    let count = c.loop-change.invariant.count in
    let fit = subst (λ (cs : List RowChange). AllByRecursion (IsChange (defs_of c.loop-change.self)) cs) items c.loop-change.invariant.fit in
    record {
      same = c.play.ensures.defs ∙ c.loop-change.invariant.same;
      fit = subst (λ (ds : List TableDef). AllByRecursion (IsChange ds) c.next.new.self.rest.items) (sym c.play.ensures.defs) fit.1;
      count = omega arith;
      loads = λ tables before idle.
          let state = c.loop-change.invariant.loads tables before idle in
          let tried = subst (λ (b : Bool). IsTried c.play.new.self state.0 c.in-Some.change b) c.if-not-branch.false (c.in_ok-play.ensures.played state.0 state.1) in (
            tables_behind_change state.0 c.in-Some.change,
            tried.1,
            loads_next tables c.args.batch state.0 c.in-Some.change c.next.new.self.rest.items c.loop-change.index (subst (λ (cs : List RowChange). LoadsOn tables c.args.batch state.0 cs c.loop-change.index) items state.2) tried.0,
          );
    }
