use Rattle.std.proofs.Common.{◌≡◌, ◌++◌, ◌+◌, ◌<◌, ◌≤◌, ◌∷◌, [], length, take, drop, None, Some, true, false, refl, sym, ap, subst, ◌∙◌, arith, rules}
use Rattle.row_lists.specs.Held.{Entries, row_of}
use Rattle.std.specs.Prelude.{is_some, FitsSigned}
use Rattle.std.specs.Int.{w64}
use Rattle.std.proofs.lemmas.Int.{to_z-of_z}
use Rattle.op_log.specs.declared.change.RowChange.TheVariants as change
use Rattle.key_space.specs.Plays.{Del}
use Rattle.op_log.specs.Changes.{body_text, change_text, del_bytes}
use Rattle.call_log.specs.Standing.{standing}
use Rattle.call_log.specs.History.{txn_limit}
use Rattle.txn_rows.specs.declared.rows.TxnRows.{TxnRows}
use Rattle.txn_rows.specs.Rows.{Running}
use Rattle.txn_rows.proofs.Running.{lent_back}
use Rattle.txn_rows.proofs.Operations.{absent_more, counted, del_more, index_is, key_has_number, stepped_as}
use Rattle.txn_rows.proofs.rows.TxnRows.del.Goals as goal

pub returns-in_err-count-clause-stopped : goal.returns-in_err-count-clause-stopped
returns-in_err-count-clause-stopped c = λ first ops runs. let left = c.in_err-count.ensures.stopped first ops (Some del_bytes) runs in search (rules, left, c.from_residual.ensures)

pub returns-then-not-has-clause-done : goal.returns-then-not-has-clause-done
returns-then-not-has-clause-done c = λ first ops runs.
    let r = c.next_count.new.self in
    let same = c.in_ok-count.ensures.ok.1 in
    let now = subst (λ (x : TxnRows). Running x first ops) (sym same) runs in
    let inside : c.args.table < length r.schema = subst (λ (x : TxnRows). c.args.table < length x.schema) (sym same) c.requires.table in
    let lists_len = now.lists_len in
    let list = c.index.ensures ∙ index_is r.lists.items c.args.table c.index.result.now [] (omega arith) in
    let has : false ≡ is_some (row_of c.index.result.now c.args.key.number) = c.if-not-has.ensures in
    counted r.schema r.lists.items r.undo.steps.items r.frame.items c.in_ok-count.count (r.count + 1) first (Del c.args.table c.args.key.number false ∷ ops)
    (absent_more r.schema r.lists.items r.undo.steps.items r.frame.items r.count first ops now c.args.table inside c.args.key.number (has ∙ ap (λ (es : Entries). is_some (row_of es c.args.key.number)) list)) c.in_ok-count.ensures.ok.0

pub unreachable-requires : goal.unreachable-requires
unreachable-requires c =
    let first = c.requires.running.0 in
    let ops = c.requires.running.1 in
    let runs = c.requires.running.2 in
    let r = c.next_count.new.self in
    let same = c.in_ok-count.ensures.ok.1 in
    let now = subst (λ (x : TxnRows). Running x first ops) (sym same) runs in
    let inside : c.args.table < length r.schema = subst (λ (x : TxnRows). c.args.table < length x.schema) (sym same) c.requires.table in
    let lists_len = now.lists_len in
    let list = c.index.ensures ∙ index_is r.lists.items c.args.table c.index.result.now [] (omega arith) in
    let has : true ≡ is_some (row_of c.index.result.now c.args.key.number) = c.if-not-has.ensures in
    let small = key_has_number r.schema r.lists.items r.undo.steps.items r.frame.items r.count first ops now c.args.table inside c.args.key.number (has ∙ ap (λ (es : Entries). is_some (row_of es c.args.key.number)) list) in
    let large = c.in_default.ensures.cases in
    omega arith

pub returns-clause-done : goal.returns-clause-done
returns-clause-done c = λ first ops runs.
    let r = c.next_count.new.self in
    let same = c.in_ok-count.ensures.ok.1 in
    let now = subst (λ (x : TxnRows). Running x first ops) (sym same) runs in
    let inside : c.args.table < length r.schema = subst (λ (x : TxnRows). c.args.table < length x.schema) (sym same) c.requires.table in
    let lists_len = now.lists_len in
    let list = c.index.ensures ∙ index_is r.lists.items c.args.table c.index.result.now [] (omega arith) in
    let has : true ≡ is_some (row_of c.index.result.now c.args.key.number) = c.if-not-has.ensures in
    let auto = c.take-taken.auto.lists in
    let ok = r.lists.ok in
    let value = c.deref_mut.ensures.len in
    let lent = lent_back r.lists.len c.take-taken.new.lists r.lists.items (omega arith) (omega arith) in
    let frame_ok = r.frame.ok in
    let len = c.len-len.ensures in
    let lists = take r.lists.len (c.take-taken.new.lists ++ drop (length c.take-taken.new.lists) r.lists.items) in
    let stepped =
    stepped_as r.lists.items c.deref_mut.result.now lists c.take-taken.new.lists r.undo.steps.items c.take-taken.new.self.steps.items r.count (length r.frame.items) c.len-len.result c.args.table c.args.key.number c.args.key.number
    None None c.in_default-taken.ensures.ok c.deref_mut.ensures.value lent (omega arith) refl refl in
    let room = subst (λ n. length (body_text r.schema (standing ops)) + n ≤ txn_limit) c.del_len.ensures (c.in_ok-check_room.ensures.ok first ops now) in
    let fits : FitsSigned w64 c.in-Some.number = search (rules, c.to_int.type_inv, c.in-Some.is) in
    counted r.schema lists c.take-taken.new.self.steps.items c.append_del.new.body.items c.in_ok-count.count (r.count + 1) first (Del c.args.table c.args.key.number true ∷ ops)
    (del_more r.schema r.lists.items r.undo.steps.items r.frame.items r.count first ops now c.args.table inside lists c.take-taken.new.self.steps.items c.append_del.new.body.items c.args.key.number c.in-Some.number
    (has ∙ ap (λ (es : Entries). is_some (row_of es c.args.key.number)) list) fits c.in-Some.ensures.cases c.ranges.table.fits stepped room
    (subst (λ n. c.append_del.new.body.items ≡ r.frame.items ++ change_text r.schema (change.Del c.args.table n)) (to_z-of_z w64 c.in-Some.number fits) c.in_ok-append_del.ensures.ok)) c.in_ok-count.ensures.ok.0
