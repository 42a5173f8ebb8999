use Rattle.std.proofs.Common.{◌≡◌, ℕ, true, false, cond, eqb, [], None, Some, sym, ap, subst, ◌∙◌, arith}
use Rattle.std.specs.Prelude.{is_some, slice_index_or}
use Rattle.std.specs.Int.{w64}
use Rattle.std.specs.List.{slice_set}
use Rattle.std.proofs.lemmas.Int.{to_z-of_z}
use Rattle.row_types.specs.Keys.{key_of_int, row_key}
use Rattle.row_types.specs.Schema.{keys_at}
use Rattle.row_lists.specs.Held.{Entries, at_key, row_of}
use Rattle.op_log.specs.Changes.{IsChange}
use Rattle.op_log.specs.declared.change.RowChange.{RowChange}
use Rattle.call_log.specs.Played.{IsPlayed, tables_behind_change}
use Rattle.txn_rows.specs.Rows.{IsIdleOn}
use Rattle.txn_rows.proofs.Operations.{index_is, load_del, load_none, load_put}
use Rattle.txn_rows.proofs.rows.TxnRows.play.Goals as goal

pub returns-then-not-has-clause-played : goal.returns-then-not-has-clause-played
returns-then-not-has-clause-played c = λ tables idle.
    let old = c.args.self.now in
    let table = c.in-Del.table in
    let number = c.in-Del.number in
    let fit = subst (λ (ch : RowChange). IsChange old.schema ch) c.in-Del.is c.requires.fit in
    let lists_len = idle.lists_len in
    let inside = fit.0.0 in
    let key = c.of_int-key.ensures ∙ ap key_of_int (to_z-of_z w64 number fit.1) in
    let list = c.index.ensures ∙ index_is old.lists.items table c.index.result.now [] (omega arith) in
    let has : false ≡ is_some (row_of c.index.result.now c.of_int-key.result.number) = c.if-not-has.ensures in
    let none = has ∙ ap (λ (es : Entries). is_some (row_of es c.of_int-key.result.number)) list ∙ ap (λ k. is_some (row_of (slice_index_or old.lists.items table []) k)) key in
    ((λ is. load_none old.schema old.lists.items old.undo.steps.items old.frame.items tables idle table inside number none (subst (λ (ch : RowChange). IsPlayed tables ch) c.in-Del.is is)), idle)

pub returns-in_ok-put-in-Put-clause-played : goal.returns-in_ok-put-in-Put-clause-played
returns-in_ok-put-in-Put-clause-played c = λ tables idle.
    let old = c.args.self.now in
    let table = c.in-Put.table in
    let row = c.in-Put.row in
    let new = c.put.new.self in
    let fit = subst (λ (ch : RowChange). IsChange old.schema ch) c.in-Put.is c.requires.fit in
    let lists_len = idle.lists_len in
    let inside = fit.0.0 in
    let key = c.key_of-key.ensures in
    let list = c.index_mut.ensures.value ∙ index_is old.lists.items table c.index_mut.result.now [] (omega arith) in
    let says : (k : ℕ) → at_key new k ≡ cond (eqb (row_key (keys_at old.schema table) row) k) (Some (Some row)) (at_key (slice_index_or old.lists.items table []) k) = λ k.
    c.in_ok-put-in-Put.ensures.put k ∙ ap (λ n. cond (eqb n k) (Some (Some row)) (at_key c.index_mut.result.now k)) key ∙ ap (λ (es : Entries). cond (eqb (row_key (keys_at old.schema table) row) k) (Some (Some row)) (at_key es k)) list in
    subst (λ (ch : RowChange). IsPlayed tables ch × IsIdleOn old.schema (slice_set old.lists.items table new) old.undo.steps.items old.frame.items (tables_behind_change tables ch) []) (sym c.in-Put.is)
    (load_put old.schema old.lists.items old.undo.steps.items old.frame.items tables idle table inside row new fit.1 says)

pub returns-else-not-has-clause-played : goal.returns-else-not-has-clause-played
returns-else-not-has-clause-played c = λ tables idle.
    let old = c.args.self.now in
    let table = c.in-Del.table in
    let number = c.in-Del.number in
    let new = c.remove.new.self in
    let fit = subst (λ (ch : RowChange). IsChange old.schema ch) c.in-Del.is c.requires.fit in
    let lists_len = idle.lists_len in
    let inside = fit.0.0 in
    let key = c.of_int-key.ensures ∙ ap key_of_int (to_z-of_z w64 number fit.1) in
    let list = c.index.ensures ∙ index_is old.lists.items table c.index.result.now [] (omega arith) in
    let mine = c.index_mut-in-Del.ensures.value ∙ index_is old.lists.items table c.index_mut-in-Del.result.now [] (omega arith) in
    let has : true ≡ is_some (row_of c.index.result.now c.of_int-key.result.number) = c.if-not-has.ensures in
    let found = has ∙ ap (λ (es : Entries). is_some (row_of es c.of_int-key.result.number)) list ∙ ap (λ k. is_some (row_of (slice_index_or old.lists.items table []) k)) key in
    let says : (k : ℕ) → at_key new k ≡ cond (eqb (key_of_int number) k) None (at_key (slice_index_or old.lists.items table []) k) = λ k.
    c.remove.ensures k ∙ ap (λ n. cond (eqb n k) None (at_key c.index_mut-in-Del.result.now k)) key ∙ ap (λ (es : Entries). cond (eqb (key_of_int number) k) None (at_key es k)) mine in
    subst (λ (ch : RowChange). IsPlayed tables ch × IsIdleOn old.schema (slice_set old.lists.items table new) old.undo.steps.items old.frame.items (tables_behind_change tables ch) []) (sym c.in-Del.is)
    (load_del old.schema old.lists.items old.undo.steps.items old.frame.items tables idle table inside number new found says)
