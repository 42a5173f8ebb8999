-- What each call on rows makes of a transaction.
use Rattle.std.proofs.Common.{◌≡◌, ℕ, zero, suc, ◌+◌, ◌<◌, ◌≤◌, Bool, true, false, cond, ◌&&◌, eqb, ℤ, List, [], ◌∷◌, ◌++◌, length, take, Option, None, Some, refl, sym, ◌∙◌, ap, subst, arith, rules}
use Rattle.std.specs.Prelude.{◌==◌, ◌^◌, is_some, IsSome, IfSome, IsTrue, slice_get, slice_index_or, FitsSigned}
use Rattle.std.specs.Int.{w64}
use Rattle.std.specs.List.{AllByRecursion, slice_set}
use Rattle.std.specs.List.Sorted.{IsStrictlySortedBy}
use Rattle.std.specs.Map.{keys_of}
use Rattle.std.specs.Ordering.{nat_cmp}
use Rattle.std.specs.Option.{option_flatten}
use Rattle.std.proofs.Math.ListN.{length-set}
use Rattle.std.proofs.lemmas.List.{take_at}
use Rattle.row_types.specs.declared.definition.TableDef.{TableDef}
use Rattle.row_types.specs.declared.row.Value.{Value}
use Rattle.row_types.specs.Keys.{key_of_int, row_key}
use Rattle.row_types.specs.Schema.{columns_at, keys_at}
use Rattle.row_types.specs.Slot.{IsRowOf}
use Rattle.row_types.specs.Tables.{TableRows, Tables}
use Rattle.row_lists.specs.Held.{Entries, at_key, row_of, rows_of, entries_between}
use Rattle.key_space.specs.Plays.{Rows, RowOp, Get, Part, Put, Del, OfTable, changed, row_at, rows_between, with_row, without_key}
use Rattle.plain_model.specs.CallPlays.{latest, moments_of}
use Rattle.plain_model.specs.CallRows.{IsRowAt}
use Rattle.op_log.specs.Changes.{body_text, change_text, del_bytes, put_bytes}
use Rattle.op_log.specs.declared.change.RowChange.TheVariants as change
use Rattle.op_log.proofs.ChangeLaws.{length_del, length_put}
use Rattle.call_log.specs.Standing.{int_of_key, standing}
use Rattle.call_log.specs.Played.{IsPlayed, tables_behind_change}
use Rattle.call_log.specs.History.{txn_limit}
use Rattle.txn_rows.specs.declared.undo.Step.{Step}
use Rattle.txn_rows.specs.Steps.{State, stands, Holds, IsStepped}
use Rattle.txn_rows.specs.Rows.{RunsOn, IsIdleOn}
use Rattle.txn_rows.proofs.Chunks.{rows_are_between, kept_rows, found_row}
use Rattle.txn_rows.proofs.Ends.{idle_with}
use Rattle.txn_rows.proofs.Numbers.{int_back, found_small}
use Rattle.txn_rows.proofs.Running.{read_more, step_more}
use Rattle.txn_rows.proofs.States.{with_set}
use Rattle.txn_rows.proofs.Tables.{table_there, of_table, from_table, tables_len, keys_are, columns_are, rows_are, changed_none, holds_put, holds_del}

-- the same bytes are cut off again
pub cut_again : (frame text : List ℕ) → take (length frame) (frame ++ text) ≡ frame
cut_again frame text = take_at frame text (length frame) refl

-- ---- rows that are read

-- a table of the schema, with its place among the tables that stand
record Here (defs : List TableDef) (state : State) (tables : Tables) (table : ℕ) : Type 0 where
  t : TableRows
  at : slice_get tables table ≡ Some t
  keys : keys_at defs table ≡ t.def.keys
  fits : AllByRecursion (IsRowOf (columns_at defs table)) t.rows
  rows : (key : ℕ) → option_flatten (state table key) ≡ row_at t.def.keys t.rows key

here : (defs : List TableDef) (state : State) (tables : Tables) (table : ℕ) → Holds defs state tables → table < length defs → Here defs state tables table
here defs state tables table holds inside =
    let len = tables_len defs tables holds.schema in
    let found = table_there tables table (omega arith) in
    let is = rows_are tables table found.0 holds.are.rows found.1 in
    record {
      t = found.0;
      at = found.1;
      keys = keys_are defs tables table found.0 holds.schema found.1;
      fits = subst (λ cs. AllByRecursion (IsRowOf cs) found.0.rows) (sym (columns_are defs tables table found.0 holds.schema found.1)) is.fits;
      rows = holds.rows table found.0 found.1;
    }

pub get_row : (defs : List TableDef) (lists : List Entries) (tables : Tables) (table key : ℕ) (found : Option (List Value)) → Holds defs (stands lists) tables → table < length defs → found ≡ row_of (slice_index_or lists table []) key
    → IfSome found (IsRowAt defs table key key)
get_row defs lists tables table key found holds inside is =
    let h = here defs (stands lists) tables table holds inside in
    subst (λ (o : Option (List Value)). IfSome o (IsRowAt defs table key key)) (ap (λ ks. row_at ks h.t.rows key) h.keys ∙ sym (is ∙ h.rows key)) (found_row defs table h.t.rows key h.fits)

pub part_rows : (defs : List TableDef) (lists : List Entries) (tables : Tables) (table lo hi : ℕ) (rows : Rows) → Holds defs (stands lists) tables → table < length defs → rows ≡ rows_of (entries_between (slice_index_or lists table []) lo hi)
    → IsStrictlySortedBy nat_cmp (keys_of (slice_index_or lists table [])) → AllByRecursion (IsRowAt defs table lo hi) rows
part_rows defs lists tables table lo hi rows holds inside is sorted =
    let h = here defs (stands lists) tables table holds inside in
    let table_rows = rows_are tables table h.t holds.are.rows h.at in
    let same = rows_are_between h.t.def.keys (slice_index_or lists table []) h.t.rows lo hi sorted table_rows.rising h.rows in
    subst (λ (rs : Rows). AllByRecursion (IsRowAt defs table lo hi) rs) (ap (λ ks. rows_between ks h.t.rows lo hi) h.keys ∙ sym (is ∙ same)) (kept_rows defs table h.t.rows lo hi h.fits)

module _ (defs : List TableDef) (lists : List Entries) (steps : List Step) (frame : List ℕ) (count : ℕ) (first : Tables) (ops : List RowOp) (runs : RunsOn defs lists steps frame count first ops) (table : ℕ) (inside : table < length defs) where
  abbrev now : Tables
  now = latest (moments_of first ops)

  pub get_more : (key : ℕ) (found : Option (List Value)) → found ≡ row_of (slice_index_or lists table []) key → RunsOn defs lists steps frame (count + 1) first (Get table key found ∷ ops)
  get_more key found is =
      let h = here defs (stands lists) now table runs.holds inside in
      read_more defs lists steps frame count first ops runs (Get table key found) refl refl (of_table now table (λ t. found ≡ row_at t.def.keys t.rows key) h.t h.at (is ∙ h.rows key))

  pub part_more : (lo hi : ℕ) (rows : Rows) → rows ≡ rows_of (entries_between (slice_index_or lists table []) lo hi) → IsStrictlySortedBy nat_cmp (keys_of (slice_index_or lists table [])) → RunsOn defs lists steps frame (count + 1) first (Part table lo hi rows ∷ ops)
  part_more lo hi rows is sorted =
      let h = here defs (stands lists) now table runs.holds inside in
      let table_rows = rows_are now table h.t runs.holds.are.rows h.at in
      let same = rows_are_between h.t.def.keys (slice_index_or lists table []) h.t.rows lo hi sorted table_rows.rising h.rows in
      read_more defs lists steps frame count first ops runs (Part table lo hi rows) refl refl (of_table now table (λ t. rows ≡ rows_between t.def.keys t.rows lo hi) h.t h.at (is ∙ same))

  -- ---- a row that is put

  pub put_more : (new_lists : List Entries) (new_steps : List Step) (new_frame : List ℕ) (row : List Value) → IsRowOf (columns_at defs table) row → table < 2 ^ 16
      → IsStepped lists new_lists steps new_steps count (length frame) table (row_key (keys_at defs table) row) (Some (Some row)) → length (body_text defs (standing ops)) + put_bytes defs table ≤ txn_limit
      → new_frame ≡ frame ++ change_text defs (change.Put table row) → RunsOn defs new_lists new_steps new_frame (count + 1) first (Put table row ∷ ops)
  put_more new_lists new_steps new_frame row fits small stepped room bytes =
      let h = here defs (stands lists) now table runs.holds inside in
      let len = length_put defs table row fits in
      let columns = columns_are defs now table h.t runs.holds.schema h.at in
      step_more defs lists steps frame count first ops runs new_lists new_steps new_frame (Put table row) (change.Put table row) table (row_key (keys_at defs table) row) (Some row) stepped refl
      (holds_put defs (stands lists) (stands new_lists) now table row runs.holds fits stepped.now)
      (of_table now table (λ t. IsRowOf t.def.columns row) h.t h.at (subst (λ cs. IsRowOf cs row) columns fits)) ((inside, small), fits) inside (omega arith) bytes

  -- ---- a row that is taken away

  -- whether there is a row of a key
  has_row : (key : ℕ) (has : Bool) → has ≡ is_some (row_of (slice_index_or lists table []) key) → OfTable now table (λ t. has ≡ is_some (row_at t.def.keys t.rows key))
  has_row key has is =
      let h = here defs (stands lists) now table runs.holds inside in
      of_table now table (λ t. has ≡ is_some (row_at t.def.keys t.rows key)) h.t h.at (is ∙ ap (λ (o : Option (List Value)). is_some o) (h.rows key))

  pub key_has_number : (key : ℕ) → true ≡ is_some (row_of (slice_index_or lists table []) key) → key < 2 ^ 64
  key_has_number key is =
      let h = here defs (stands lists) now table runs.holds inside in
      found_small (columns_at defs table) h.t.def.keys h.t.rows key h.fits (sym (is ∙ ap (λ (o : Option (List Value)). is_some o) (h.rows key)))

  pub absent_more : (key : ℕ) → false ≡ is_some (row_of (slice_index_or lists table []) key) → RunsOn defs lists steps frame (count + 1) first (Del table key false ∷ ops)
  absent_more key is =
      let h = here defs (stands lists) now table runs.holds inside in
      read_more defs lists steps frame count first ops runs (Del table key false)
      (changed_none now table key (of_table now table (λ t. is_some (row_at t.def.keys t.rows key) ≡ false) h.t h.at (sym (is ∙ ap (λ (o : Option (List Value)). is_some o) (h.rows key)))))
      refl (has_row key false is)

  emptied : (b : Bool) (o : Option (Option (List Value))) → option_flatten (cond b (Some None) o) ≡ cond b None (option_flatten o)
  emptied true o = refl
  emptied false o = refl

  pub del_more : (new_lists : List Entries) (new_steps : List Step) (new_frame : List ℕ) (key : ℕ) (number : ℤ) → true ≡ is_some (row_of (slice_index_or lists table []) key) → FitsSigned w64 number → key_of_int number ≡ key → table < 2 ^ 16
      → IsStepped lists new_lists steps new_steps count (length frame) table key (Some None) → length (body_text defs (standing ops)) + del_bytes ≤ txn_limit
      → new_frame ≡ frame ++ change_text defs (change.Del table number) → RunsOn defs new_lists new_steps new_frame (count + 1) first (Del table key true ∷ ops)
  del_more new_lists new_steps new_frame key number found fits is small stepped room bytes =
      let len = length_del defs table number in
      let same : int_of_key key ≡ number = ap int_of_key (sym is) ∙ int_back number fits in
      step_more defs lists steps frame count first ops runs new_lists new_steps new_frame (Del table key true) (change.Del table number) table key None stepped
      (ap (λ v. standing ops ++ change.Del table v ∷ []) same)
      (holds_del defs (stands lists) (stands new_lists) now table key runs.holds (λ m k. ap (λ (o : Option (Option (List Value))). option_flatten o) (stepped.now m k) ∙ emptied ((table == m) && (key == k)) (stands lists m k)))
      (has_row key true found) ((inside, small), fits) inside (omega arith) bytes

-- what has a row is there
pub there_of : (o : Option (Option (List Value))) → true ≡ is_some (option_flatten o) → IsSome o
there_of None e = absurd cc
there_of (Some row) e = refl

-- ---- loading

module _ (defs : List TableDef) (lists : List Entries) (steps : List Step) (frame : List ℕ) (tables : Tables) (idle : IsIdleOn defs lists steps frame tables []) (table : ℕ) (inside : table < length defs) where
  pub load_put : (row : List Value) (new : Entries) → IsRowOf (columns_at defs table) row → ((k : ℕ) → at_key new k ≡ cond (eqb (row_key (keys_at defs table) row) k) (Some (Some row)) (stands lists table k))
      → IsPlayed tables (change.Put table row) × IsIdleOn defs (slice_set lists table new) steps frame (tables_behind_change tables (change.Put table row)) []
  load_put row new fits says =
      let h = here defs (stands lists) tables table idle.holds inside in
      let columns = columns_are defs tables table h.t idle.holds.schema h.at in
      let len = idle.lists_len in (
        of_table tables table (λ t. IsRowOf t.def.columns row) h.t h.at (subst (λ cs. IsRowOf cs row) columns fits),
        idle_with defs lists (slice_set lists table new) steps frame tables (changed tables table (λ t. with_row t.def.keys t.rows row)) idle (length-set lists table new)
            (holds_put defs (stands lists) (stands (slice_set lists table new)) tables table row idle.holds fits (with_set lists table (row_key (keys_at defs table) row) (Some (Some row)) new (omega arith) says)),
      )

  pub load_del : (number : ℤ) (new : Entries) → true ≡ is_some (row_of (slice_index_or lists table []) (key_of_int number)) → ((k : ℕ) → at_key new k ≡ cond (eqb (key_of_int number) k) None (stands lists table k))
      → IsPlayed tables (change.Del table number) × IsIdleOn defs (slice_set lists table new) steps frame (tables_behind_change tables (change.Del table number)) []
  load_del number new found says =
      let h = here defs (stands lists) tables table idle.holds inside in
      let len = idle.lists_len in (
        of_table tables table (λ t. IsTrue (is_some (row_at t.def.keys t.rows (key_of_int number)))) h.t h.at (search (rules, found ∙ ap (λ (o : Option (List Value)). is_some o) (h.rows (key_of_int number)))),
        idle_with defs lists (slice_set lists table new) steps frame tables (changed tables table (λ t. without_key t.def.keys t.rows (key_of_int number))) idle (length-set lists table new)
            (holds_del defs (stands lists) (stands (slice_set lists table new)) tables table (key_of_int number) idle.holds
            (λ m k. ap (λ (o : Option (Option (List Value))). option_flatten o) (with_set lists table (key_of_int number) None new (omega arith) says m k) ∙ none_put ((table == m) && (key_of_int number == k)) (stands lists m k))),
      )
    where
      none_put : (b : Bool) (o : Option (Option (List Value))) → option_flatten (cond b None o) ≡ cond b None (option_flatten o)
      none_put true o = refl
      none_put false o = refl

  pub load_none : (number : ℤ) → false ≡ is_some (row_of (slice_index_or lists table []) (key_of_int number)) → IsPlayed tables (change.Del table number) → ⊥
  load_none number none is =
      let h = here defs (stands lists) tables table idle.holds inside in
      let there = from_table tables table (λ t. IsTrue (is_some (row_at t.def.keys t.rows (key_of_int number)))) h.t h.at is in
      let not_there = none ∙ ap (λ (o : Option (List Value)). is_some o) (h.rows (key_of_int number)) in
      both (is_some (row_at h.t.def.keys h.t.rows (key_of_int number))) not_there there
    where
      both : (b : Bool) → false ≡ b → IsTrue b → ⊥
      both true e there = absurd cc
      both false e there = absurd (not_true there)
        where
          not_true : IsTrue false → ⊥
          not_true t = cc

-- ---- what calls hand over

-- another value for a place outside doesn't matter inside
pub index_is : (lists : List Entries) (n : ℕ) (d e : Entries) → n < length lists → slice_index_or lists n d ≡ slice_index_or lists n e
index_is [] n d e inside = absurd (omega arith)
index_is (x ∷ lists) zero d e inside = refl
index_is (x ∷ lists) (suc n) d e inside = index_is lists n d e (omega arith)

pub stepped_as : (lists old_lists new_lists lent : List Entries) (steps new_steps : List Step) (count len old_len table key old_key : ℕ) (row old_row : Option (List Value)) → IsStepped old_lists lent steps new_steps count old_len table old_key (Some old_row)
    → old_lists ≡ lists → new_lists ≡ lent → old_len ≡ len → old_key ≡ key → old_row ≡ row → IsStepped lists new_lists steps new_steps count len table key (Some row)
stepped_as lists old_lists new_lists lent steps new_steps count len old_len table key old_key row old_row stepped a b c d e =
    subst (λ (ls : List Entries). IsStepped ls new_lists steps new_steps count len table key (Some row)) a
    (subst (λ (ls : List Entries). IsStepped old_lists ls steps new_steps count len table key (Some row)) (sym b)
    (subst (λ n. IsStepped old_lists lent steps new_steps count n table key (Some row)) c
    (subst (λ k. IsStepped old_lists lent steps new_steps count old_len table k (Some row)) d
    (subst (λ (r : Option (List Value)). IsStepped old_lists lent steps new_steps count old_len table old_key (Some r)) e stepped))))

pub counted : (defs : List TableDef) (lists : List Entries) (steps : List Step) (frame : List ℕ) (count old_count : ℕ) (first : Tables) (ops : List RowOp) → RunsOn defs lists steps frame old_count first ops → count ≡ old_count → RunsOn defs lists steps frame count first ops
counted defs lists steps frame count old_count first ops runs e = subst (λ n. RunsOn defs lists steps frame n first ops) (sym e) runs
