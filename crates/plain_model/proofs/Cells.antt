-- What a row that fits has in the column that a name is.
use Rattle.std.proofs.Common.{◌≡◌, ℕ, zero, suc, ◌+◌, ◌≤◌, Bool, true, false, cond, List, [], ◌∷◌, length, Option, None, Some, refl, ap, sym, subst, ◌∙◌, arith}
use Rattle.std.specs.Prelude.{slice_get, unwrap_or, option_map, nat_lt, pos}
use Rattle.std.specs.List.{find, slice_set}
use Rattle.std.specs.Str.{bytes_eq}
use Rattle.std.proofs.lemmas.Bool.{ltb-false}
use Rattle.row_types.specs.declared.definition.Kind.{Kind}
use Rattle.row_types.specs.declared.definition.Kind.TheVariants as kinds
use Rattle.row_types.specs.declared.definition.Column.{Column}
use Rattle.row_types.specs.declared.row.Value.{Value}
use Rattle.row_types.specs.declared.row.Value.TheVariants as values
use Rattle.row_types.specs.Slot.{FitsKind, IsRowOf}
use Rattle.row_types.specs.Schema.{column_named}
use Rattle.sql_check.specs.Columns.{column_number, kind_named, kind_of}
use Rattle.sql_check.specs.declared.fault.CheckFault.TheVariants.{Length}
use Rattle.sql_check.specs.Misfits.{given_fault}
use Rattle.sql_check.specs.Valued.{IsValue}
use Rattle.sql_check.proofs.NamedTables.{found_at}
use Rattle.plain_model.specs.Values.{cell}

kind_found : (o : Option Column) (kind : Kind) → option_map (λ (c : Column). c.kind) o ≡ Some kind → (c : Column) × (o ≡ Some c) × (c.kind ≡ kind)
kind_found None kind e = absurd cc
kind_found (Some c) kind e = (c, refl, cc)

-- a name of a column of this kind has a number, and at it stands a column of this kind
pub record IsNamed (columns : List Column) (name : List ℕ) (kind : Kind) : Type 0 where
  pub column : Column
  pub number : column_named columns name ≡ Some (column_number columns name)
  pub stands : slice_get columns (column_number columns name) ≡ Some column
  pub kind_is : column.kind ≡ kind

pub is_named : (columns : List Column) (name : List ℕ) (kind : Kind) → kind_named columns name ≡ Some kind → IsNamed columns name kind
is_named columns name kind e =
    let found = kind_found (find (λ (c : Column). bytes_eq c.name name) columns) kind e in
    let at = found_at (λ (c : Column). bytes_eq c.name name) 0 columns found.0 found.1 in
    let plain : 0 + at.0 ≡ at.0 = omega arith in
    let number : column_named columns name ≡ Some at.0 = at.1 ∙ ap Some plain in
    let is : column_number columns name ≡ at.0 = ap (λ o. unwrap_or o 0) number in
    record {
      column = found.0;
      number = number ∙ ap Some (sym is);
      stands = ap (slice_get columns) is ∙ at.2;
      kind_is = found.2;
    }

-- a row has in each column a value that fits it
pub fits_at : (columns : List Column) (row : List Value) (n : ℕ) (c : Column) → IsRowOf columns row → slice_get columns n ≡ Some c → (v : Value) × (slice_get row n ≡ Some v) × FitsKind c.kind v
fits_at [] row n c is e = absurd cc
fits_at (x ∷ xs) [] n c is e = absurd is
fits_at (x ∷ xs) (v ∷ vs) zero c is e = let same : x ≡ c = cc in (v, refl, subst (λ (y : Column). FitsKind y.kind v) same is.0)
fits_at (x ∷ xs) (v ∷ vs) (suc n) c is e = fits_at xs vs n c is.1 e

-- so has it in the column that a name is
pub cell_fits : (columns : List Column) (row : List Value) (name : List ℕ) (kind : Kind) → IsRowOf columns row → kind_named columns name ≡ Some kind → FitsKind kind (cell columns row name)
cell_fits columns row name kind is e =
    let named = is_named columns name kind e in
    let found = fits_at columns row (column_number columns name) named.column is named.stands in
    let same : cell columns row name ≡ found.0 = ap (λ o. unwrap_or o (values.Int (pos 0))) found.1 in
    subst (λ v. FitsKind kind v) (sym same) (subst (λ k. FitsKind k found.0) named.kind_is found.2)

-- a value that is set fits, and so does the row
pub set_fits : (columns : List Column) (row : List Value) (n : ℕ) (c : Column) (v : Value) → IsRowOf columns row → slice_get columns n ≡ Some c → FitsKind c.kind v → IsRowOf columns (slice_set row n v)
set_fits [] [] n c v is e fits = absurd cc
set_fits [] (w ∷ ws) n c v is e fits = absurd is
set_fits (x ∷ xs) [] n c v is e fits = absurd is
set_fits (x ∷ xs) (w ∷ ws) zero c v is e fits = let same : c ≡ x = cc in (subst (λ (y : Column). FitsKind y.kind v) same fits, is.1)
set_fits (x ∷ xs) (w ∷ ws) (suc n) c v is e fits = (is.0, set_fits xs ws n c v is.1 e fits)

-- what stands elsewhere stays
pub get_elsewhere : (row : List Value) (n k : ℕ) (v : Value) → (k ≡ n → ⊥) → slice_get (slice_set row n v) k ≡ slice_get row k
get_elsewhere [] n k v other = refl
get_elsewhere (w ∷ ws) zero zero v other = absurd (other refl)
get_elsewhere (w ∷ ws) zero (suc k) v other = refl
get_elsewhere (w ∷ ws) (suc n) zero v other = refl
get_elsewhere (w ∷ ws) (suc n) (suc k) v other = get_elsewhere ws n k v (λ e. other (ap suc e))

test_fits : (limit given : ℕ) (b : Bool) → nat_lt limit given ≡ b → cond b (Some (Length given limit)) None ≡ None → given ≤ limit
test_fits limit given true e none = absurd cc
test_fits limit given false e none = ltb-false _ _ e

-- a value without a fault fits
pub value_fits : (kind : Kind) (v : Value) → given_fault kind (kind_of v) ≡ None → IsValue v → FitsKind kind v
value_fits kinds.Int (values.Int number) none is = is
value_fits kinds.Int (values.Text text) none is = absurd cc
value_fits (kinds.Text limit) (values.Int number) none is = absurd cc
value_fits (kinds.Text limit) (values.Text text) none is = (test_fits limit (length text) (nat_lt limit (length text)) refl none, is)

-- what fits a column fits one that it may be given to
pub wider_fits : (kind given : Kind) (v : Value) → given_fault kind given ≡ None → FitsKind given v → FitsKind kind v
wider_fits kinds.Int kinds.Int v none fits = fits
wider_fits kinds.Int (kinds.Text given) v none fits = absurd cc
wider_fits (kinds.Text limit) kinds.Int v none fits = absurd cc
wider_fits (kinds.Text limit) (kinds.Text given) (values.Int number) none fits = absurd fits
wider_fits (kinds.Text limit) (kinds.Text given) (values.Text text) none fits =
    let small = test_fits limit given (nat_lt limit given) refl none in let less : length text ≤ given = fits.0 in (omega arith, fits.1)
