-- Reading columns and tables one after the other, as loops do.
use Rattle.std.proofs.Common.{◌≡◌, ℕ, suc, ◌-◌, ◌+◌, ◌≤◌, ◌<◌, false, not, eqb, length, List, [], ◌∷◌, ◌++◌, Option, None, Some, refl, sym, ap, ◌∙◌, append_assoc, arith}
use Rattle.std.specs.Prelude.{is_none, IsSome}
use Rattle.std.proofs.lemmas.List.{append-nil}
use Rattle.row_types.specs.declared.definition.Column.{Column}
use Rattle.row_types.specs.declared.definition.TableDef.{TableDef}
use Rattle.row_types.specs.declared.schema_text.ReadError.{ReadError}
use Rattle.row_types.specs.declared.schema_text.ReadError.TheVariants as errors
use Rattle.row_types.specs.Schema.{refusal}
use Rattle.row_types.specs.SchemaReading.{◌>>=◌, FailsToRead, column_at, columns_from, byte_at, table_at, tables_from, schema_at}

-- what was read before, and what is still read
abbrev pub with_front : List Column → Option (List Column × List ℕ) → Option (List Column × List ℕ)
with_front front read = read >>= λ x. Some (front ++ x.0, x.1)

regroup : (front : List Column) (c : Column) (read : Option (List Column × List ℕ)) → with_front front (read >>= λ x. Some (c ∷ x.0, x.1)) ≡ with_front (front ++ c ∷ []) read
regroup front c (Some x) = ap (λ (cs : List Column). Some (cs, x.1)) (sym (append_assoc front (c ∷ []) x.0))
regroup front c None = refl

module _ (front : List Column) (count i : ℕ) (bytes : List ℕ) (total : Option (List Column × List ℕ)) where
  pub columns_go_on : (c : Column) (after : List ℕ) → i < count → column_at bytes ≡ Some (c, after) → with_front front (columns_from (count - i) bytes) ≡ total
      → with_front (front ++ c ∷ []) (columns_from (count - (i + 1)) after) ≡ total
  unfolding columns_from
  columns_go_on c after lt h so_far =
      let k : count - i ≡ suc (count - (i + 1)) = omega arith in
      let one : with_front front (columns_from (count - i) bytes) ≡ with_front (front ++ c ∷ []) (columns_from (count - (i + 1)) after) = rw (k, h) (regroup front c (columns_from (count - (i + 1)) after)) in
      sym one ∙ so_far

  pub columns_end : (e : ReadError) → i < count → FailsToRead e (column_at bytes) → with_front front (columns_from (count - i) bytes) ≡ total → FailsToRead e total
  unfolding columns_from
  columns_end errors.OutOfMemory lt h so_far = tt
  columns_end errors.Invalid lt h so_far =
      let k : count - i ≡ suc (count - (i + 1)) = omega arith in
      let one : with_front front (columns_from (count - i) bytes) ≡ None = rw (k, h) refl in
      sym so_far ∙ one

  pub columns_done : count ≤ i → with_front front (columns_from (count - i) bytes) ≡ total → total ≡ Some (front, bytes)
  unfolding columns_from
  columns_done le so_far =
      let k : count - i ≡ 0 = omega arith in
      let one : with_front front (columns_from (count - i) bytes) ≡ Some (front, bytes) = rw k (ap (λ (cs : List Column). Some (cs, bytes)) (append-nil front)) in
      sym so_far ∙ one

module _ (tables : List TableDef) (count i : ℕ) (bytes : List ℕ) (total : Option (List TableDef × List ℕ)) where
  pub tables_go_on : (t : TableDef) (after : List ℕ) → i < count → table_at bytes ≡ Some (t, after) → refusal tables t ≡ None → tables_from (count - i) tables bytes ≡ total
      → tables_from (count - (i + 1)) (tables ++ t ∷ []) after ≡ total
  unfolding tables_from
  tables_go_on t after lt h none so_far =
      let k : count - i ≡ suc (count - (i + 1)) = omega arith in
      let one : tables_from (count - i) tables bytes ≡ tables_from (count - (i + 1)) (tables ++ t ∷ []) after = rw (k, h, none) refl in
      sym one ∙ so_far

  pub tables_end : (e : ReadError) → i < count → FailsToRead e (table_at bytes) → tables_from (count - i) tables bytes ≡ total → FailsToRead e total
  unfolding tables_from
  tables_end errors.OutOfMemory lt h so_far = tt
  tables_end errors.Invalid lt h so_far =
      let k : count - i ≡ suc (count - (i + 1)) = omega arith in
      let one : tables_from (count - i) tables bytes ≡ None = rw (k, h) refl in
      sym so_far ∙ one

  pub tables_refuse : (t : TableDef) (after : List ℕ) → i < count → table_at bytes ≡ Some (t, after) → is_none (refusal tables t) ≡ false → tables_from (count - i) tables bytes ≡ total → total ≡ None
  unfolding tables_from
  tables_refuse t after lt h some so_far =
      let k : count - i ≡ suc (count - (i + 1)) = omega arith in
      let one : tables_from (count - i) tables bytes ≡ None = rw (k, h, some) refl in
      sym so_far ∙ one

  pub tables_done : count ≤ i → tables_from (count - i) tables bytes ≡ total → total ≡ Some (tables, bytes)
  unfolding tables_from
  tables_done le so_far =
      let k : count - i ≡ 0 = omega arith in
      let one : tables_from (count - i) tables bytes ≡ Some (tables, bytes) = rw k refl in
      sym so_far ∙ one

  pub tables_refused : (e : ReadError) (t : TableDef) (after : List ℕ) → i < count → table_at bytes ≡ Some (t, after) → (e ≡ errors.Invalid → IsSome (refusal tables t)) → tables_from (count - i) tables bytes ≡ total → FailsToRead e total
  tables_refused errors.OutOfMemory t after lt h some so_far = tt
  tables_refused errors.Invalid t after lt h some so_far = tables_refuse t after lt h (ap not (some refl)) so_far

module _ (bytes : List ℕ) (count : ℕ) (rest : List ℕ) (begins : byte_at bytes ≡ Some (count, rest)) where
  pub schema_fails : (e : ReadError) → FailsToRead e (tables_from count [] rest) → FailsToRead e (schema_at bytes)
  unfolding schema_at
  schema_fails errors.OutOfMemory fails = tt
  schema_fails errors.Invalid fails = rw (begins, fails) refl

  pub schema_whole : (tables : List TableDef) (after : List ℕ) → tables_from count [] rest ≡ Some (tables, after) → length after ≡ 0 → schema_at bytes ≡ Some tables
  unfolding schema_at
  schema_whole tables after h none = rw (begins, h, none) refl

  pub schema_trailing : (tables : List TableDef) (after : List ℕ) → tables_from count [] rest ≡ Some (tables, after) → eqb (length after) 0 ≡ false → schema_at bytes ≡ None
  unfolding schema_at
  schema_trailing tables after h some = rw (begins, h, some) refl
