use Rattle.std.proofs.Common.{◌++◌, ◌+◌, ◌<◌, ◌≤◌, ◌∷◌, length, take, drop, Some, sym, ap, subst, ◌∙◌, arith, rules}
use Rattle.row_types.specs.Keys.{row_key}
use Rattle.row_types.specs.Schema.{columns_at, keys_at}
use Rattle.row_types.specs.Slot.{IsRowOf}
use Rattle.key_space.specs.Plays.{Put}
use Rattle.op_log.specs.Changes.{body_text, put_bytes}
use Rattle.call_log.specs.Standing.{standing}
use Rattle.call_log.specs.History.{txn_limit}
use Rattle.txn_rows.specs.declared.rows.TxnRows.{TxnRows}
use Rattle.txn_rows.specs.Rows.{LeftBy, Running}
use Rattle.txn_rows.proofs.Running.{lent_back}
use Rattle.txn_rows.proofs.Operations.{counted, put_more, stepped_as}
use Rattle.txn_rows.proofs.rows.TxnRows.put.Goals as goal

pub returns-in_err-count-clause-stopped : goal.returns-in_err-count-clause-stopped
returns-in_err-count-clause-stopped c = λ first ops runs. let left = c.in_err-count.ensures.stopped first ops (Some (put_bytes c.args.self.now.schema c.args.table)) runs in search (rules, left, c.from_residual.ensures)

pub returns-in_err-check_room-clause-stopped : goal.returns-in_err-check_room-clause-stopped
returns-in_err-check_room-clause-stopped c = λ first ops runs.
    let same = c.in_ok-count.ensures.ok.1 in
    let now = subst (λ (x : TxnRows). Running x first ops) (sym same) runs in
    let len = c.put_len.ensures.value ∙ ap (λ (x : TxnRows). put_bytes x.schema c.args.table) same in
    let left = subst (λ n. LeftBy c.next_count.new.self first ops (Some n) c.in_err-check_room.field-0.0) len (c.in_err-check_room.ensures.stopped first ops now) in
    search (rules, left, c.from_residual-in_err-check_room.ensures)

pub returns-clause-done : goal.returns-clause-done
returns-clause-done c = λ first ops runs.
    let r = c.next_count.new.self in
    let same = c.in_ok-count.ensures.ok.1 in
    let now = subst (λ (x : TxnRows). Running x first ops) (sym same) runs in
    let inside : c.args.table < length r.schema = subst (λ (x : TxnRows). c.args.table < length x.schema) (sym same) c.requires.table in
    let lists_len = now.lists_len in
    let fits = subst (λ (x : TxnRows). IsRowOf (columns_at x.schema c.args.table) c.args.row.now) (sym same) c.requires.row in
    let auto = c.set-set.auto.lists in
    let ok = r.lists.ok in
    let value = c.deref_mut.ensures.len in
    let lent = lent_back r.lists.len c.set-set.new.lists r.lists.items (omega arith) (omega arith) in
    let frame_ok = r.frame.ok in
    let len = c.len-len.ensures in
    let lists = take r.lists.len (c.set-set.new.lists ++ drop (length c.set-set.new.lists) r.lists.items) in
    let stepped =
    stepped_as r.lists.items c.deref_mut.result.now lists c.set-set.new.lists r.undo.steps.items c.set-set.new.self.steps.items r.count (length r.frame.items) c.len-len.result c.args.table (row_key (keys_at r.schema c.args.table) c.args.row.now) c.key_of-key.result.number
    (Some c.args.row.now) (Some c.in_ok-kept.kept) c.in_default.ensures.ok c.deref_mut.ensures.value lent (omega arith) c.key_of-key.ensures (ap Some c.in_ok-kept.ensures) in
    let room = subst (λ n. length (body_text r.schema (standing ops)) + n ≤ txn_limit) c.put_len.ensures.value (c.in_ok-check_room.ensures.ok first ops now) in
    counted r.schema lists c.set-set.new.self.steps.items c.append_put.new.body.items c.in_ok-count.count (r.count + 1) first (Put c.args.table c.args.row.now ∷ ops)
    (put_more r.schema r.lists.items r.undo.steps.items r.frame.items r.count first ops now c.args.table inside lists c.set-set.new.self.steps.items c.append_put.new.body.items c.args.row.now fits c.ranges.table.fits stepped room c.in_ok-append_put.ensures.ok) c.in_ok-count.ensures.ok.0
