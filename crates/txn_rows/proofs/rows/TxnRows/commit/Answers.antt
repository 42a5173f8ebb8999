use Rattle.std.proofs.Common.{List, sym, subst, arith}
use Rattle.row_lists.specs.Held.{Entries}
use Rattle.plain_model.specs.CallPlays.{latest, moments_of}
use Rattle.call_log.specs.Standing.{standing}
use Rattle.txn_rows.specs.Steps.{KeepsRows}
use Rattle.txn_rows.specs.Rows.{IsIdleOn}
use Rattle.txn_rows.proofs.Ends.{committed}
use Rattle.txn_rows.proofs.Running.{lent_back}
use Rattle.txn_rows.proofs.rows.TxnRows.commit.Goals as goal

pub returns-clause-idle : goal.returns-clause-idle
returns-clause-idle c = λ first ops runs.
    let old = c.args.self.now in
    let same = c.keep.auto.lists in
    let ok = old.lists.ok in
    let value = c.deref_mut.ensures.len in
    let lent = lent_back old.lists.len c.keep.new.lists old.lists.items (omega arith) (omega arith) in
    let all = committed old.schema old.lists.items c.keep.new.lists old.undo.steps.items c.keep.new.self.steps.items old.frame.items c.close.new.frame.items old.count first ops runs (subst (λ (ls : List Entries). KeepsRows ls c.keep.new.lists) c.deref_mut.ensures.value c.keep.ensures.lists) c.keep.ensures.steps c.in_ok-close.ensures.ok in
    subst (λ (ls : List Entries). IsIdleOn old.schema ls c.keep.new.self.steps.items c.close.new.frame.items (latest (moments_of first ops)) (standing ops)) (sym lent) all
