use Rattle.std.proofs.Common.{◌+◌, ◌<◌, ◌∷◌, [], length, None, sym, ap, subst, ◌∙◌, arith, rules}
use Rattle.row_lists.specs.Held.{Entries, row_of}
use Rattle.std.specs.Prelude.{slice_index_or}
use Rattle.plain_model.specs.CallPlays.{latest, moments_of}
use Rattle.key_space.specs.Plays.{Get}
use Rattle.txn_rows.specs.declared.rows.TxnRows.{TxnRows}
use Rattle.txn_rows.specs.Rows.{Running}
use Rattle.txn_rows.proofs.Operations.{counted, get_more, get_row, index_is}
use Rattle.txn_rows.proofs.rows.TxnRows.get.Goals as goal

pub returns-in_err-count-clause-stopped : goal.returns-in_err-count-clause-stopped
returns-in_err-count-clause-stopped c = λ first ops runs. let left = c.in_err-count.ensures.stopped first ops None runs in search (rules, left, c.from_residual.ensures)

pub returns-clause-done : goal.returns-clause-done
returns-clause-done c = λ first ops runs.
    let r = c.next_count.new.self in
    let same = c.in_ok-count.ensures.ok.1 in
    let now = subst (λ (x : TxnRows). Running x first ops) (sym same) runs in
    let inside : c.args.table < length r.schema = subst (λ (x : TxnRows). c.args.table < length x.schema) (sym same) c.requires.table in
    let lists_len = now.lists_len in
    let list = c.index.ensures ∙ index_is r.lists.items c.args.table c.index.result.now [] (omega arith) in
    counted r.schema r.lists.items r.undo.steps.items r.frame.items c.in_ok-count.count (r.count + 1) first (Get c.args.table c.args.key.number c.in_ok-row.row ∷ ops)
    (get_more r.schema r.lists.items r.undo.steps.items r.frame.items r.count first ops now c.args.table inside c.args.key.number c.in_ok-row.row (c.in_ok-row.ensures ∙ ap (λ (es : Entries). row_of es c.args.key.number) list)) c.in_ok-count.ensures.ok.0

pub returns-clause-row : goal.returns-clause-row
returns-clause-row c =
    let first = c.requires.running.0 in
    let ops = c.requires.running.1 in
    let runs = c.requires.running.2 in
    let old = c.args.self.now in
    let r = c.next_count.new.self in
    let same = c.in_ok-count.ensures.ok.1 in
    let now = subst (λ (x : TxnRows). Running x first ops) (sym same) runs in
    let inside : c.args.table < length r.schema = subst (λ (x : TxnRows). c.args.table < length x.schema) (sym same) c.requires.table in
    let lists_len = now.lists_len in
    let list = c.index.ensures ∙ index_is r.lists.items c.args.table c.index.result.now [] (omega arith) in
    let listed = c.in_ok-row.ensures ∙ ap (λ (es : Entries). row_of es c.args.key.number) list ∙ ap (λ (x : TxnRows). row_of (slice_index_or x.lists.items c.args.table []) c.args.key.number) same in
    get_row old.schema old.lists.items (latest (moments_of first ops)) c.args.table c.args.key.number c.in_ok-row.row runs.holds c.requires.table listed
