-- What a statement that fits says by names, its plan says by numbers, row by row.
use Rattle.std.proofs.Common.{◌≡◌, ℕ, zero, suc, ◌+◌, ◌<◌, length, Bool, true, false, cond, ◌||◌, not, is_none, List, [], ◌∷◌, map, slice_get, unwrap_or, Option, None, Some, refl, sym, ap, subst, ◌∙◌, arith}
use Rattle.std.specs.Option.{option_map_or}
use Rattle.std.specs.Str.{bytes_eq}
use Rattle.row_types.specs.declared.definition.TableDef.{TableDef}
use Rattle.row_types.specs.declared.row.Value.{Value}
use Rattle.row_types.specs.Slot.{IsRowOf}
use Rattle.key_space.specs.Plays.{Rows}
use Rattle.sql_parse.specs.declared.statement.Change.{Change}
use Rattle.sql_parse.specs.declared.statement.Condition.{Condition}
use Rattle.sql_parse.specs.declared.statement.Statement.{Statement}
use Rattle.sql_parse.specs.declared.statement.Statement.TheVariants as statements
use Rattle.sql_check.specs.declared.fault.CheckFault.{CheckFault}
use Rattle.sql_check.specs.declared.fault.CheckFault.TheVariants.{NoTable}
use Rattle.sql_check.specs.Columns.{def_at, def_named, no_def, table_number}
use Rattle.sql_check.specs.Misfits.{changes_fault, condition_fault, fault_in, fault_on, first_fault, first_of, misfit, table_of}
use Rattle.sql_check.specs.Plans.{assignment_of, number_of, test_of}
use Rattle.sql_check.proofs.NamedTables.{found_at}
use Rattle.plain_model.specs.declared.reply.Reply.{Reply}
use Rattle.plain_model.specs.declared.reply.Reply.TheVariants as replies
use Rattle.plain_model.specs.declared.reply.Refusal.{Refusal}
use Rattle.plain_model.specs.declared.reply.Refusal.TheVariants as refusals
use Rattle.plain_model.specs.Meaning.{count_of}
use Rattle.plain_model.specs.PlanMeaning.{passes_all, planned_row}
use Rattle.plain_model.specs.Values.{changed_row, is_kept}
use Rattle.plain_model.proofs.PlanLaws.{plan_means}

-- ---- the table of a statement

named_at : (defs : List TableDef) (name : List ℕ) (def : TableDef) → def_named defs name ≡ Some def → slice_get defs (table_number defs name) ≡ Some def
named_at defs name def e =
    let at = found_at (λ (t : TableDef). bytes_eq t.name name) 0 defs def e in
    let plain : 0 + at.0 ≡ at.0 = omega arith in
    ap (λ o. slice_get defs (unwrap_or o 0)) (at.1 ∙ ap Some plain) ∙ at.2

fault_none : (defs : List TableDef) (statement : Statement) (name : List ℕ) (o : Option TableDef) → def_named defs name ≡ o → option_map_or (λ def. fault_in def statement) o (Some NoTable) ≡ None
    → (def : TableDef) × (def_named defs name ≡ Some def) × (fault_in def statement ≡ None)
fault_none defs statement name None e none = absurd cc
fault_none defs statement name (Some def) e none = (def, e, none)

no_table : (statement : Statement) → table_of statement ≡ None → (def : TableDef) → fault_in def statement ≡ None
no_table (statements.Insert s) e def = absurd cc
no_table (statements.Select s) e def = absurd cc
no_table (statements.Totals s) e def = absurd cc
no_table (statements.Update s) e def = absurd cc
no_table (statements.Delete s) e def = absurd cc
no_table (statements.Create created) e def = refl
no_table statements.Begin e def = refl
no_table statements.Commit e def = refl
no_table statements.Rollback e def = refl

fault_by : (defs : List TableDef) (statement : Statement) (o : Option (List ℕ)) → table_of statement ≡ o → option_map_or (fault_on defs statement) o None ≡ None → fault_in (def_at defs (option_map_or (table_number defs) o 0)) statement ≡ None
fault_by defs statement None e none = no_table statement e (def_at defs 0)
fault_by defs statement (Some name) e none =
    let found = fault_none defs statement name (def_named defs name) refl none in
    subst (λ (def : TableDef). fault_in def statement ≡ None) (sym (ap (λ (d : Option TableDef). unwrap_or d no_def) (named_at defs name found.0 found.1))) found.2

-- a statement that fits has no fault in its table
pub fault_at : (defs : List TableDef) (statement : Statement) → misfit defs statement ≡ None → fault_in (def_at defs (number_of defs statement)) statement ≡ None
fault_at defs statement none = fault_by defs statement (table_of statement) refl none

-- ---- one row

same_kept : (a b : Bool) (row : List Value) → cond (not a) (row ∷ []) [] ≡ cond (not b) (row ∷ []) [] → a ≡ b
same_kept true true row e = refl
same_kept false false row e = refl
same_kept true false row e = absurd cc
same_kept false true row e = absurd cc

-- a row is kept where it passes the tests
pub kept_passes : (def : TableDef) (conditions : List Condition) → first_fault (condition_fault def.columns) conditions ≡ None → (row : List Value) → IsRowOf def.columns row → is_kept def.columns conditions row ≡ passes_all (map (test_of def.columns) conditions) row
kept_passes def conditions none row fits =
    let means = plan_means 0 def (statements.Delete (record { table = []; conditions = conditions })) (row ∷ []) none (fits, tt) in
    same_kept (is_kept def.columns conditions row) (passes_all (map (test_of def.columns) conditions) row) row (ap (λ (p : Reply × Rows). p.1) means)

abbrev answer : Option (List Value) → List Value → Reply × Rows
answer made row = cond (is_none made || false) (replies.Refused refusals.Range, row ∷ []) (replies.Many (count_of (row ∷ [])), unwrap_or made row ∷ [])

not_many : (refusal : Refusal) (count : ℕ) → replies.Refused refusal ≡ replies.Many count → ⊥
not_many refusal count e = cc

same_made : (a b : Option (List Value)) (row : List Value) → answer a row ≡ answer b row → a ≡ b
same_made None None row e = refl
same_made (Some a) (Some b) row e = let same = ap (λ (p : Reply × Rows). p.1) e in cc
same_made None (Some b) row e = absurd (not_many _ _ (ap (λ (p : Reply × Rows). p.0) e))
same_made (Some a) None row e = absurd (not_many _ _ (sym (ap (λ (p : Reply × Rows). p.0) e)))

-- its new row is the planned one
pub changed_planned : (def : TableDef) (changes : List Change) → changes_fault def [] changes ≡ None → (row : List Value) → IsRowOf def.columns row → changed_row def.columns changes row ≡ planned_row (map (assignment_of def.columns) changes) row
changed_planned def changes none row fits =
    let fault : first_of (changes_fault def [] changes ∷ None ∷ []) ≡ None = subst (λ (o : Option CheckFault). first_of (o ∷ None ∷ []) ≡ None) (sym none) refl in
    let means = plan_means 0 def (statements.Update (record { table = []; changes = changes; conditions = [] })) (row ∷ []) fault (fits, tt) in
    same_made (changed_row def.columns changes row) (planned_row (map (assignment_of def.columns) changes) row) row means

get_less : {A : Type 0} (list : List A) (n : ℕ) (x : A) → slice_get list n ≡ Some x → n < length list
get_less [] n x e = absurd cc
get_less (y ∷ list) zero x e = omega arith
get_less (y ∷ list) (suc n) x e = let rest = get_less list n x e in omega (arith, rest)

less_by : (defs : List TableDef) (statement : Statement) (name : List ℕ) (o : Option (List ℕ)) → o ≡ Some name → option_map_or (fault_on defs statement) o None ≡ None → option_map_or (table_number defs) o 0 < length defs
less_by defs statement name None is none = absurd cc
less_by defs statement name (Some other) is none =
    let found = fault_none defs statement other (def_named defs other) refl none in
    get_less defs (table_number defs other) found.0 (named_at defs other found.0 found.1)

-- the table of a statement that fits is there
pub number_less : (defs : List TableDef) (statement : Statement) (name : List ℕ) → table_of statement ≡ Some name → misfit defs statement ≡ None → number_of defs statement < length defs
number_less defs statement name is none = less_by defs statement name (table_of statement) is none
