use Rattle.std.proofs.Common.{◌≡◌, List, ℕ, ◌++◌, ◌∷◌, [], ◌+◌, ◌-◌, ◌<◌, drop, length, sym, subst, arith, length-drop}
use Rattle.std.proofs.lemmas.List.{take_rest}
use Rattle.op_log.specs.declared.change.RowChange.{RowChange}
use Rattle.op_log.specs.Changes.{IsReadAs}
use Rattle.op_log.specs.Bodies.{RunsTo}
use Rattle.op_log.proofs.Bodies.{one_more, read_some}
use Rattle.op_log.proofs.read.read_body.Goals as goal

pub loop-change-smaller : goal.loop-change-smaller
loop-change-smaller c =
    let defs = c.args.schema.now in
    let body = c.args.body.now in
    let at = c.loop-change.at in
    let read : IsReadAs defs (drop at body) c.in-Ok.change c.in-Ok.len = subst (λ (l : List ℕ). IsReadAs defs l c.in-Ok.change c.in-Ok.len) (take_rest body at) c.in-Ok.ensures.found in
    let some = read_some defs body (drop at body) c.in-Ok.change c.in-Ok.len read in
    let less : length body - (at + c.in-Ok.len) < length body - at = omega (arith, some, read.inside, length-drop at body) in
    less

pub loop-change-preserved : goal.loop-change-preserved
loop-change-preserved c =
    let defs = c.args.schema.now in
    let body = c.args.body.now in
    let at = c.loop-change.at in
    let read : IsReadAs defs (drop at body) c.in-Ok.change c.in-Ok.len = subst (λ (l : List ℕ). IsReadAs defs l c.in-Ok.change c.in-Ok.len) (take_rest body at) c.in-Ok.ensures.found in
    let items : c.push.new.self.items ≡ c.loop-change.changes.items ++ c.in-Ok.change ∷ [] = c.in_ok-push-in-Ok.ensures.items in
    subst (λ (l : List RowChange). RunsTo defs body l (at + c.in-Ok.len)) (sym items)
    (one_more defs body c.loop-change.changes.items at c.in-Ok.change c.in-Ok.len c.loop-change.invariant read)
