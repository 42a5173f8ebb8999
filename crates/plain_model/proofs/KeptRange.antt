-- A row that WHERE keeps has its key in the range of the conditions.
use Rattle.std.proofs.Common.{◌≡◌, ◌↔◌, ℕ, ◌^◌, ◌<◌, ◌≤◌, Bool, true, false, cond, ◌&&◌, ◌||◌, ℤ, pos, negsuc, List, [], ◌∷◌, Option, None, Some, refl, ap, sym, subst, ◌∙◌, arith}
use Rattle.std.specs.Prelude.{◌<ℤ◌, int_lt, ◌==◌, slice_get, unwrap_or, FitsSigned}
use Rattle.std.specs.Bool.{passes}
use Rattle.std.proofs.Math.Dec.{T}
use Rattle.std.specs.Int.{w64}
use Rattle.std.specs.List.{list_all, AllByRecursion}
use Rattle.std.specs.Option.{option_map_or}
use Rattle.std.specs.declared.cmp.Ordering.TheVariants as order
use Rattle.std.proofs.lemmas.Bool.{eqb-true}
use Rattle.row_types.specs.declared.definition.Kind.{Kind}
use Rattle.row_types.specs.declared.definition.Kind.TheVariants as kinds
use Rattle.row_types.specs.declared.definition.Column.{Column}
use Rattle.row_types.specs.declared.definition.TableDef.{TableDef}
use Rattle.row_types.specs.declared.row.Value.{Value}
use Rattle.row_types.specs.declared.row.Value.TheVariants as values
use Rattle.row_types.specs.Slot.{FitsKind, IsRowOf}
use Rattle.row_types.specs.Keys.{key_of_int, int_of, row_key}
use Rattle.row_types.specs.Schema.{column_named, is_int, is_int_column, has_int_key}
use Rattle.key_space.specs.Plays.{Rows}
use Rattle.sql_parse.specs.declared.statement.Comparison.{Comparison}
use Rattle.sql_parse.specs.declared.statement.Comparison.TheVariants.{Equal, NotEqual, Less, LessEqual, Greater, GreaterEqual}
use Rattle.sql_parse.specs.declared.statement.Condition.{Condition}
use Rattle.sql_check.specs.Columns.{column_number, is_marked, is_key}
use Rattle.sql_check.specs.KeyRange.{IsInRange, MeetsKey, key_in, on_key, range_of}
use Rattle.sql_check.specs.Valued.{IsValue, IsConditionOfValue}
use Rattle.plain_model.specs.Values.{value_at, cell, allows, compares, holds, is_kept}
use Rattle.plain_model.specs.Meaning.{kept}
use Rattle.plain_model.proofs.Cells.{fits_at}

-- ---- numbers compare as their keys do

less_meets : (c : Comparison) (a b : ℕ) → a < b → allows c order.Less ≡ true → MeetsKey c a b
less_meets Equal a b less e = absurd cc
less_meets NotEqual a b less e = tt
less_meets Less a b less e = less
less_meets LessEqual a b less e = omega arith
less_meets Greater a b less e = absurd cc
less_meets GreaterEqual a b less e = absurd cc

equal_meets : (c : Comparison) (a b : ℕ) → a ≡ b → allows c order.Equal ≡ true → MeetsKey c a b
equal_meets Equal a b same e = same
equal_meets NotEqual a b same e = tt
equal_meets Less a b same e = absurd cc
equal_meets LessEqual a b same e = omega arith
equal_meets Greater a b same e = absurd cc
equal_meets GreaterEqual a b same e = omega arith

greater_meets : (c : Comparison) (a b : ℕ) → b < a → allows c order.Greater ≡ true → MeetsKey c a b
greater_meets Equal a b greater e = absurd cc
greater_meets NotEqual a b greater e = tt
greater_meets Less a b greater e = absurd cc
greater_meets LessEqual a b greater e = absurd cc
greater_meets Greater a b greater e = greater
greater_meets GreaterEqual a b greater e = omega arith

-- keys are in the order of their numbers, which a law of keys says
abbrev pub KeepOrder : Type 0
KeepOrder = (v w : ℤ) → FitsSigned w64 v → FitsSigned w64 w → (v <ℤ w) ↔ (key_of_int v < key_of_int w)

module _ (keep : KeepOrder) where
  below : (x w : ℤ) → FitsSigned w64 x → FitsSigned w64 w → int_lt x w ≡ true → key_of_int x < key_of_int w
  below x w fits_x fits_w e = (keep x w fits_x fits_w).0 (record { lt = passes (int_lt x w) e })

  not_below : (x w : ℤ) → FitsSigned w64 x → FitsSigned w64 w → int_lt x w ≡ false → key_of_int w ≤ key_of_int x
  not_below x w fits_x fits_w e =
      let no : key_of_int x < key_of_int w → ⊥ = λ less. subst (λ b. T b) e ((keep x w fits_x fits_w).1 less).lt in omega arith

  compared : (c : Comparison) (x w : ℤ) → FitsSigned w64 x → FitsSigned w64 w → (p q : Bool) → int_lt x w ≡ p → int_lt w x ≡ q → allows c (cond p order.Less (cond q order.Greater order.Equal)) ≡ true
      → MeetsKey c (key_of_int x) (key_of_int w)
  compared c x w fits_x fits_w true q is_p is_q e = less_meets c (key_of_int x) (key_of_int w) (below x w fits_x fits_w is_p) e
  compared c x w fits_x fits_w false true is_p is_q e = greater_meets c (key_of_int x) (key_of_int w) (below w x fits_w fits_x is_q) e
  compared c x w fits_x fits_w false false is_p is_q e =
      let one = not_below x w fits_x fits_w is_p in
      let other = not_below w x fits_w fits_x is_q in
      equal_meets c (key_of_int x) (key_of_int w) (omega arith) e

  meets : (c : Comparison) (x : ℤ) (value : Value) → FitsSigned w64 x → IsValue value → compares c (values.Int x) value ≡ true → MeetsKey c (key_of_int x) (key_of_int (int_of (Some value)))
  meets c x (values.Int w) fits_x fits_w e = compared c x w fits_x fits_w (int_lt x w) (int_lt w x) refl refl e
  meets c x (values.Text text) fits_x is e = absurd cc

  -- ---- the key of a row

  small : (x : ℤ) → FitsSigned w64 x → key_of_int x < 2 ^ 64
  small (pos n) fits = omega (arith, fits.sfits)
  small (negsuc n) fits = omega (arith, fits.sfits)

  int_value : (v : Value) → FitsKind kinds.Int v → (x : ℤ) × (v ≡ values.Int x) × FitsSigned w64 x
  int_value (values.Int x) fits = (x, refl, fits)
  int_value (values.Text text) fits = absurd fits

  -- the one column that is the key, and the number that the row has in it
  record KeyOf (def : TableDef) (row : List Value) : Type 0 where
    mark : ℕ
    marks : def.keys ≡ mark ∷ []
    number : ℤ
    value : value_at row mark ≡ values.Int number
    fits : FitsSigned w64 number
    key : row_key def.keys row ≡ key_of_int number

  int_column : (columns : List Column) (mark : ℕ) (o : Option Column) → slice_get columns mark ≡ o → is_int_column o ≡ true → (c : Column) × (slice_get columns mark ≡ Some c) × (c.kind ≡ kinds.Int)
  int_column columns mark None e int = absurd cc
  int_column columns mark (Some c) e int = (c, e, kind_is c.kind int)
    where
      kind_is : (k : Kind) → is_int k ≡ true → k ≡ kinds.Int
      kind_is kinds.Int e = refl
      kind_is (kinds.Text limit) e = absurd cc

  key_marks : (def : TableDef) (row : List Value) (keys : List ℕ) → def.keys ≡ keys → has_int_key def.columns keys ≡ true → IsRowOf def.columns row → KeyOf def row
  key_marks def row [] is int fits = absurd cc
  key_marks def row (mark ∷ []) is int fits =
      let column = int_column def.columns mark (slice_get def.columns mark) refl int in
      let found = fits_at def.columns row mark column.0 fits column.1 in
      let x = int_value found.0 (subst (λ k. FitsKind k found.0) column.2 found.2) in
      let at : slice_get row mark ≡ Some (values.Int x.0) = found.1 ∙ ap Some x.1 in
      record {
        mark = mark;
        marks = is;
        number = x.0;
        value = ap (λ o. unwrap_or o (values.Int (pos 0))) at;
        fits = x.2;
        key = ap (λ (l : List ℕ). row_key l row) is ∙ ap (λ o. key_of_int (int_of o)) at;
      }
  key_marks def row (mark ∷ other ∷ marks) is int fits = absurd cc

  key_of : (def : TableDef) (row : List Value) → has_int_key def.columns def.keys ≡ true → IsRowOf def.columns row → KeyOf def row
  key_of def row int fits = key_marks def row def.keys refl int fits

  -- ---- a condition on the key

  on_mark : (mark : ℕ) (def : TableDef) (name : List ℕ) (o : Option ℕ) → def.keys ≡ mark ∷ [] → column_named def.columns name ≡ o → option_map_or (is_marked def.keys) o false ≡ true → column_number def.columns name ≡ mark
  on_mark mark def name None is e key = absurd cc
  on_mark mark def name (Some n) is e key =
      let marked : is_marked (mark ∷ []) n ≡ true = subst (λ (l : List ℕ). is_marked l n ≡ true) is key in
      let same : mark ≡ n = eqb-true mark n (first (mark == n) marked) in
      ap (λ o. unwrap_or o 0) e ∙ sym same
    where
      first : (b : Bool) → (b || false) ≡ true → b ≡ true
      first true e = refl
      first false e = e

  one_meets : (def : TableDef) (row : List Value) (c : Condition) → KeyOf def row → is_key def c.column ≡ true → holds def.columns row c ≡ true → IsConditionOfValue c → MeetsKey c.comparison (row_key def.keys row) (key_in c)
  one_meets def row c key on held is =
      let number = on_mark key.mark def c.column (column_named def.columns c.column) key.marks refl on in
      let value : cell def.columns row c.column ≡ values.Int key.number = ap (value_at row) number ∙ key.value in
      let compared : compares c.comparison (values.Int key.number) c.value ≡ true = subst (λ v. compares c.comparison v c.value ≡ true) value held in
      subst (λ k. MeetsKey c.comparison k (key_in c)) (sym key.key) (meets c.comparison key.number c.value key.fits is compared)

  both_true : (a b : Bool) → (a && b) ≡ true → (a ≡ true) × (b ≡ true)
  both_true true b e = (refl, e)
  both_true false b e = absurd cc

  abbrev Meet : TableDef → List Value → List Condition → Type 0
  Meet def row cs = AllByRecursion (λ (c : Condition). MeetsKey c.comparison (row_key def.keys row) (key_in c)) cs

  all_meet : (def : TableDef) (row : List Value) (conditions : List Condition) → KeyOf def row → list_all (holds def.columns row) conditions ≡ true → AllByRecursion IsConditionOfValue conditions → Meet def row (on_key def conditions)
  all_meet def row [] key held is = tt
  all_meet def row (c ∷ conditions) key held is =
      let parts = both_true (holds def.columns row c) (list_all (holds def.columns row) conditions) held in
      let rest = all_meet def row conditions key parts.1 is.1 in
      let step : (b : Bool) → is_key def c.column ≡ b → Meet def row (cond b (c ∷ on_key def conditions) (on_key def conditions)) =
      elim [ true ↦ (λ e. (one_meets def row c key e parts.0 is.0, rest)) | false ↦ (λ e. rest) ] in
      step (is_key def c.column) refl

  -- the law on ranges, of the crate below
  abbrev pub Allows : Type 0
  Allows = (def : TableDef) (conditions : List Condition) (key : ℕ) → IsInRange (range_of def conditions) key ↔ ((key < 2 ^ 64) × AllByRecursion (λ (c : Condition). MeetsKey c.comparison key (key_in c)) (on_key def conditions))

  pub kept_in_range : Allows → (def : TableDef) (conditions : List Condition) (row : List Value) → has_int_key def.columns def.keys ≡ true → IsRowOf def.columns row → AllByRecursion IsConditionOfValue conditions
      → is_kept def.columns conditions row ≡ true → IsInRange (range_of def conditions) (row_key def.keys row)
  kept_in_range range_allows def conditions row int fits is held =
      let key = key_of def row int fits in
      (range_allows def conditions (row_key def.keys row)).1 (subst (λ k. k < 2 ^ 64) (sym key.key) (small key.number key.fits), all_meet def row conditions key held is)

  pub none_kept : Allows → (def : TableDef) (conditions : List Condition) (rows : Rows) → has_int_key def.columns def.keys ≡ true → AllByRecursion (IsRowOf def.columns) rows → AllByRecursion IsConditionOfValue conditions
      → range_of def conditions ≡ None → kept def.columns conditions rows ≡ []
  none_kept range_allows def conditions [] int fits is empty = refl
  none_kept range_allows def conditions (row ∷ rows) int fits is empty =
      let rest = none_kept range_allows def conditions rows int fits.1 is empty in
      let step : (b : Bool) → is_kept def.columns conditions row ≡ b → cond b (row ∷ kept def.columns conditions rows) (kept def.columns conditions rows) ≡ [] =
      elim [
        | true ↦ (λ e. absurd (subst (λ o. IsInRange o (row_key def.keys row)) empty (kept_in_range range_allows def conditions row int fits.0 is e)))
        | false ↦ (λ e. rest)
      ] in
      step (is_kept def.columns conditions row) refl
