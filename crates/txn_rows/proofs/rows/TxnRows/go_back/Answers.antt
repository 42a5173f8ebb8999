use Rattle.std.proofs.Common.{◌++◌, ◌+◌, ◌∷◌, length, take, drop, List, None, Some, refl, subst, arith}
use Rattle.key_space.specs.Plays.{UndoTo}
use Rattle.row_lists.specs.Held.{Entries}
use Rattle.txn_rows.specs.Steps.{IsTakenBack}
use Rattle.txn_rows.proofs.Running.{lent_back, runs_same, went_back}
use Rattle.txn_rows.proofs.rows.TxnRows.go_back.Goals as goal

pub returns-in-Some-clause-back : goal.returns-in-Some-clause-back
returns-in-Some-clause-back c = λ first ops runs is.
    let old = c.args.self.now in
    let same = c.back_to.auto.lists in
    let ok = old.lists.ok in
    let value = c.deref_mut.ensures.len in
    let lent = lent_back old.lists.len c.back_to.new.lists old.lists.items (omega arith) (omega arith) in
    let all = went_back old.schema old.lists.items c.back_to.new.lists old.undo.steps.items c.back_to.new.self.steps.items old.frame.items c.truncate.new.self.items old.count first ops c.args.mark (Some c.in-Some.len) runs is (λ kept undone split before since. let done = c.in-Some.ensures kept undone split before since in (done.0, done.1, subst (λ (ls : List Entries). IsTakenBack ls c.back_to.new.lists undone) c.deref_mut.ensures.value done.2)) c.truncate.ensures.items in
    runs_same old.schema c.back_to.new.lists (take old.lists.len (c.back_to.new.lists ++ drop (length c.back_to.new.lists) old.lists.items)) c.back_to.new.self.steps.items c.back_to.new.self.steps.items c.truncate.new.self.items c.truncate.new.self.items
    (old.count + 1) first (UndoTo c.args.mark ∷ ops) all lent refl refl

pub returns-in_default-clause-back : goal.returns-in_default-clause-back
returns-in_default-clause-back c = λ first ops runs is.
    let old = c.args.self.now in
    let same = c.back_to.auto.lists in
    let ok = old.lists.ok in
    let value = c.deref_mut.ensures.len in
    let lent = lent_back old.lists.len c.back_to.new.lists old.lists.items (omega arith) (omega arith) in
    let all = went_back old.schema old.lists.items c.back_to.new.lists old.undo.steps.items c.back_to.new.self.steps.items old.frame.items old.frame.items old.count first ops c.args.mark None runs is (λ kept undone split before since. let done = c.in_default.ensures kept undone split before since in (done.0, done.1, subst (λ (ls : List Entries). IsTakenBack ls c.back_to.new.lists undone) c.deref_mut.ensures.value done.2)) refl in
    runs_same old.schema c.back_to.new.lists (take old.lists.len (c.back_to.new.lists ++ drop (length c.back_to.new.lists) old.lists.items)) c.back_to.new.self.steps.items c.back_to.new.self.steps.items old.frame.items old.frame.items
    (old.count + 1) first (UndoTo c.args.mark ∷ ops) all lent refl refl
