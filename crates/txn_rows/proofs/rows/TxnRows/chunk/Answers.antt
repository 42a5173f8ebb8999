use Rattle.std.proofs.Common.{◌+◌, ◌<◌, ◌∷◌, [], length, None, sym, ap, subst, ◌∙◌, arith, rules}
use Rattle.row_lists.specs.Held.{Entries, entries_between, rows_of}
use Rattle.std.specs.List.Sorted.{IsStrictlySortedBy}
use Rattle.std.specs.Map.{keys_of}
use Rattle.std.specs.Ordering.{nat_cmp}
use Rattle.std.specs.List.{AllByRecursion}
use Rattle.plain_model.specs.CallPlays.{latest, moments_of}
use Rattle.plain_model.specs.CallRows.{IsRowAt}
use Rattle.key_space.specs.Plays.{Part}
use Rattle.txn_rows.specs.declared.rows.TxnRows.{TxnRows}
use Rattle.txn_rows.specs.Rows.{Running}
use Rattle.txn_rows.proofs.Operations.{counted, index_is, part_more, part_rows}
use Rattle.txn_rows.proofs.rows.TxnRows.chunk.Goals as goal

pub returns-in_err-count-clause-stopped : goal.returns-in_err-count-clause-stopped
returns-in_err-count-clause-stopped c = λ first ops runs. let left = c.in_err-count.ensures.stopped first ops None runs in search (rules, left, c.from_residual.ensures)

pub returns-clause-done : goal.returns-clause-done
returns-clause-done c = λ first ops runs.
    let r = c.next_count.new.self in
    let same = c.in_ok-count.ensures.ok.1 in
    let now = subst (λ (x : TxnRows). Running x first ops) (sym same) runs in
    let inside : c.args.table < length r.schema = subst (λ (x : TxnRows). c.args.table < length x.schema) (sym same) c.requires.table in
    let lists_len = now.lists_len in
    let list = c.index.ensures ∙ index_is r.lists.items c.args.table c.index.result.now [] (omega arith) in
    let lo = c.args.range.lo.number in
    let upto = c.in_ok-piece.piece.upto.number in
    let listed = c.in_ok-piece.ensures.rows ∙ ap (λ (es : Entries). rows_of (entries_between es lo upto)) list in
    let sorted = subst (λ (es : Entries). IsStrictlySortedBy nat_cmp (keys_of es)) list c.rows_between.ensures.rising in
    counted r.schema r.lists.items r.undo.steps.items r.frame.items c.in_ok-count.count (r.count + 1) first (Part c.args.table lo upto c.in_ok-piece.piece.rows ∷ ops)
    (part_more r.schema r.lists.items r.undo.steps.items r.frame.items r.count first ops now c.args.table inside lo upto c.in_ok-piece.piece.rows listed sorted) c.in_ok-count.ensures.ok.0

pub returns-clause-rows : goal.returns-clause-rows
returns-clause-rows c =
    let first = c.requires.running.0 in
    let ops = c.requires.running.1 in
    let runs = c.requires.running.2 in
    let r = c.next_count.new.self in
    let same = c.in_ok-count.ensures.ok.1 in
    let now = subst (λ (x : TxnRows). Running x first ops) (sym same) runs in
    let inside : c.args.table < length r.schema = subst (λ (x : TxnRows). c.args.table < length x.schema) (sym same) c.requires.table in
    let lists_len = now.lists_len in
    let list = c.index.ensures ∙ index_is r.lists.items c.args.table c.index.result.now [] (omega arith) in
    let lo = c.args.range.lo.number in
    let upto = c.in_ok-piece.piece.upto.number in
    let listed = c.in_ok-piece.ensures.rows ∙ ap (λ (es : Entries). rows_of (entries_between es lo upto)) list in
    let sorted = subst (λ (es : Entries). IsStrictlySortedBy nat_cmp (keys_of es)) list c.rows_between.ensures.rising in
    subst (λ (x : TxnRows). AllByRecursion (IsRowAt x.schema c.args.table lo upto) c.in_ok-piece.piece.rows) same
    (part_rows r.schema r.lists.items (latest (moments_of first ops)) c.args.table lo upto c.in_ok-piece.piece.rows now.holds inside listed sorted)
