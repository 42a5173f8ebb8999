-- A table that is found by its name, and by its number.
use Rattle.std.proofs.Common.{◌≡◌, ℕ, zero, suc, ◌+◌, Bool, true, false, cond, List, [], ◌∷◌, ◌++◌, length, map, Option, None, Some, refl, ap, sym, ◌∙◌, arith}
use Rattle.std.specs.Prelude.{slice_get, option_and_then, unwrap_or}
use Rattle.std.specs.List.{find, position_from, range_with_len}
use Rattle.std.specs.Option.{option_or, option_map_or}
use Rattle.std.specs.Str.{bytes_eq}
use Rattle.row_types.specs.declared.definition.Kind.{Kind}
use Rattle.row_types.specs.declared.definition.TableDef.{TableDef}
use Rattle.row_types.specs.Schema.{table_named}
use Rattle.sql_parse.specs.declared.statement.Change.{Change}
use Rattle.sql_parse.specs.declared.statement.Statement.{Statement}
use Rattle.sql_check.specs.declared.fault.CheckFault.{CheckFault}
use Rattle.sql_check.specs.declared.fault.CheckFault.TheVariants.{NoTable, NoColumn}
use Rattle.sql_check.specs.Columns.{def_named, kind_named}
use Rattle.sql_check.specs.Misfits.{first_fault, of_column, term_fault, is_none_left, terms_of, expression_fault, target_fault, change_fault, fault_in, table_of, fault_on, misfit}

-- something isn't nothing
pub clash : {A X : Type 0} (x : A) → Some x ≡ None → X
clash x e = absurd cc

-- what has no place isn't found
none_found : {A : Type 0} (p : A → Bool) (n : ℕ) (xs : List A) → position_from p n xs ≡ None → find p xs ≡ None
none_found p n [] e = refl
none_found {A} p n (x ∷ xs) e =
    let step : (b : Bool) → cond b (Some n) (position_from p (n + 1) xs) ≡ None → cond b (Some x) (find p xs) ≡ None =
    elim [ true ↦ (λ h. clash n h) | false ↦ (λ h. none_found p (n + 1) xs h) ] in
    step (p x) e

-- what isn't found has no place
no_place : {A : Type 0} (p : A → Bool) (n : ℕ) (xs : List A) → find p xs ≡ None → position_from p n xs ≡ None
no_place p n [] e = refl
no_place {A} p n (x ∷ xs) e =
    let step : (b : Bool) → cond b (Some x) (find p xs) ≡ None → cond b (Some n) (position_from p (n + 1) xs) ≡ None =
    elim [ true ↦ (λ h. clash x h) | false ↦ (λ h. no_place p (n + 1) xs h) ] in
    step (p x) e

-- what is found stands at its place
pub found_at : {A : Type 0} (p : A → Bool) (n : ℕ) (xs : List A) (x : A) → find p xs ≡ Some x → (k : ℕ) × (position_from p n xs ≡ Some (n + k)) × (slice_get xs k ≡ Some x)
found_at p n [] x e = absurd cc
found_at {A} p n (y ∷ ys) x e =
    let step : (b : Bool) → cond b (Some y) (find p ys) ≡ Some x → (k : ℕ) × (cond b (Some n) (position_from p (n + 1) ys) ≡ Some (n + k)) × (slice_get (y ∷ ys) k ≡ Some x) =
    elim [
      | true ↦ (λ h. let same : n ≡ n + 0 = omega arith in (0, ap Some same, h))
      | false ↦ (λ h. let rest = found_at p (n + 1) ys x h in let same : n + 1 + rest.0 ≡ n + suc rest.0 = omega arith in (suc rest.0, rest.1 ∙ ap Some same, rest.2))
    ] in
    step (p y) e

-- what stands at the place is what is found
found_is : {A : Type 0} (p : A → Bool) (xs : List A) (k : ℕ) (x : A) (o : Option A) → find p xs ≡ o → position_from p 0 xs ≡ Some k → slice_get xs k ≡ Some x → o ≡ Some x
found_is p xs k x None e place at = absurd (let none = no_place p 0 xs e in cc)
found_is p xs k x (Some y) e place at =
    let found = found_at p 0 xs y e in
    let same_place : Some (0 + found.0) ≡ Some k = sym found.1 ∙ place in
    let plain : 0 + found.0 ≡ k = cc in
    let number : found.0 ≡ k = omega arith in
    let stands : slice_get xs k ≡ Some y = ap (slice_get xs) (sym number) ∙ found.2 in
    sym stands ∙ at

table_none : (defs : List TableDef) (name : List ℕ) → table_named defs name ≡ None → def_named defs name ≡ None
table_none defs name e = none_found (λ (t : TableDef). bytes_eq t.name name) 0 defs e

table_some : (defs : List TableDef) (name : List ℕ) (n : ℕ) (def : TableDef) → table_named defs name ≡ Some n → slice_get defs n ≡ Some def → def_named defs name ≡ Some def
table_some defs name n def e at = found_is (λ (t : TableDef). bytes_eq t.name name) defs n def (def_named defs name) refl e at

-- the fault of a statement whose table isn't there, or is
pub misfit_nowhere : (defs : List TableDef) (statement : Statement) (name : List ℕ) → table_of statement ≡ Some name → table_named defs name ≡ None → misfit defs statement ≡ Some NoTable
misfit_nowhere defs statement name e none =
    ap (λ o. option_map_or (fault_on defs statement) o None) e ∙ ap (λ o. option_map_or (λ def. fault_in def statement) o (Some NoTable)) (table_none defs name none)

pub misfit_there : (defs : List TableDef) (statement : Statement) (name : List ℕ) (n : ℕ) (def : TableDef) → table_of statement ≡ Some name → table_named defs name ≡ Some n → slice_get defs n ≡ Some def → misfit defs statement ≡ fault_in def statement
misfit_there defs statement name n def e place at =
    ap (λ o. option_map_or (fault_on defs statement) o None) e ∙ ap (λ o. option_map_or (λ d. fault_in d statement) o (Some NoTable)) (table_some defs name n def place at)

-- a statement that fits and has no table's number is on no table
on_none : (defs : List TableDef) (statement : Statement) (o : Option (List ℕ)) → table_of statement ≡ o → misfit defs statement ≡ None → option_and_then (table_named defs) o ≡ None → o ≡ None
on_none defs statement None e none number = refl
on_none defs statement (Some name) e none number = absurd (let fault = misfit_nowhere defs statement name e number in cc)

pub on_no_table : (defs : List TableDef) (statement : Statement) → misfit defs statement ≡ None → option_and_then (table_named defs) (table_of statement) ≡ None → table_of statement ≡ None
on_no_table defs statement none number = on_none defs statement (table_of statement) refl none number

-- ---- an assignment whose column is right

or_last : (o : Option CheckFault) → option_or o None ≡ o
or_last None = refl
or_last (Some fault) = refl

pub change_is : (def : TableDef) (earlier : List (List ℕ)) (change : Change) (kind : Kind) → target_fault def earlier change.column ≡ None → kind_named def.columns change.column ≡ Some kind
    → change_fault def earlier change ≡ first_fault (term_fault def.columns kind (is_none_left change.further)) (terms_of change)
change_is def earlier change kind none named =
    ap (λ t. option_or t (option_or (expression_fault def.columns change) None)) none ∙ or_last (expression_fault def.columns change)
    ∙ ap (λ o. option_map_or (λ k. first_fault (term_fault def.columns k (is_none_left change.further)) (terms_of change)) o (Some NoColumn)) named

-- ---- numbers in a row

pub range_more : (a n : ℕ) → range_with_len a (n + 1) ≡ range_with_len a n ++ (a + n) ∷ []
range_more a zero = let same : a ≡ a + 0 = omega arith in ap (λ k. k ∷ []) same
range_more a (suc n) =
    let same : a + 1 + n ≡ a + suc n = omega arith in
    let next : suc n + 1 ≡ suc (n + 1) = omega arith in
    ap (range_with_len a) next ∙ ap (λ (l : List ℕ). a ∷ l) (range_more (a + 1) n ∙ ap (λ k. range_with_len (a + 1) n ++ k ∷ []) same)
