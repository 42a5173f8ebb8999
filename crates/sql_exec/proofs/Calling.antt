-- What one call means for the rows of its table.
use Rattle.std.proofs.Common.{◌≡◌, ℕ, zero, suc, Bool, List, [], ◌∷◌, map, reverse, slice_get, unwrap_or, Option, None, Some, refl, sym, ap, subst, ◌∙◌}
use Rattle.std.specs.List.{AllByRecursion}
use Rattle.row_types.specs.declared.definition.TableDef.{TableDef}
use Rattle.row_types.specs.declared.row.Value.{Value}
use Rattle.row_types.specs.Schema.{columns_at, columns_of, keys_at, keys_of}
use Rattle.row_types.specs.Slot.{IsRowOf}
use Rattle.row_types.specs.Keys.{row_key}
use Rattle.row_types.specs.Tables.{TableRows, Tables, AreTables, IsTableRows, AreRising, schema_of}
use Rattle.key_space.specs.Plays.{Rows, Get, Part, Put, Del, row_at, rows_between, with_row, without_key}
use Rattle.key_space.proofs.PlaysLaws.{tables_stay, schema_stays}
use Rattle.sql_check.specs.Columns.{def_at, no_def}
use Rattle.plain_model.specs.Calls.{Call, Did, ops_of}
use Rattle.plain_model.specs.CallPlays.{tables_of}
use Rattle.plain_model.specs.Meaning.{table_at}
use Rattle.plain_model.proofs.CallLaws.{plays_as_listed}
use Rattle.sql_exec.specs.Plays.{PlaysFrom, Turns}
use Rattle.sql_exec.proofs.OneTable.{fact_at, there, one_change}

keys_is : (def : Option TableDef) → keys_of def ≡ (unwrap_or def no_def).keys
keys_is None = refl
keys_is (Some def) = refl

columns_is : (def : Option TableDef) → columns_of def ≡ (unwrap_or def no_def).columns
columns_is None = refl
columns_is (Some def) = refl

pub keys_def : (defs : List TableDef) (n : ℕ) → keys_at defs n ≡ (def_at defs n).keys
keys_def defs n = keys_is (slice_get defs n)

pub columns_def : (defs : List TableDef) (n : ℕ) → columns_at defs n ≡ (def_at defs n).columns
columns_def defs n = columns_is (slice_get defs n)

pub def_is : (tables : Tables) (n : ℕ) → (table_at tables n).def ≡ def_at (schema_of tables) n
def_is [] n = refl
def_is (t ∷ tables) zero = refl
def_is (t ∷ tables) (suc n) = def_is tables n

rows_are : (tables : Tables) (n : ℕ) → AllByRecursion IsTableRows tables → IsTableRows (table_at tables n)
rows_are [] n all = record { fits = tt; rising = tt }
rows_are (t ∷ tables) zero all = all.0
rows_are (t ∷ tables) (suc n) all = rows_are tables n all.1

-- ---- the tables now

module _ (defs : List TableDef) (n : ℕ) (first : Tables) (calls : List Call) (plays : PlaysFrom defs first calls) where
  pub tables_now : AreTables (tables_of first calls)
  tables_now = tables_stay first (tables_of first calls) (reverse (ops_of calls)) plays.tables (plays_as_listed first calls plays.answers)

  pub schema_now : schema_of (tables_of first calls) ≡ defs
  schema_now = schema_stays first (tables_of first calls) (reverse (ops_of calls)) plays.tables (plays_as_listed first calls plays.answers) ∙ plays.schema

  pub def_now : (table_at (tables_of first calls) n).def ≡ def_at defs n
  def_now = def_is (tables_of first calls) n ∙ ap (λ (ds : List TableDef). def_at ds n) schema_now

  pub keys_now : (table_at (tables_of first calls) n).def.keys ≡ keys_at defs n
  keys_now = ap (λ (d : TableDef). d.keys) def_now ∙ sym (keys_def defs n)

  pub columns_now : (table_at (tables_of first calls) n).def.columns ≡ columns_at defs n
  columns_now = ap (λ (d : TableDef). d.columns) def_now ∙ sym (columns_def defs n)

  pub fits_now : AllByRecursion (IsRowOf (columns_at defs n)) (table_at (tables_of first calls) n).rows
  fits_now = subst (λ columns. AllByRecursion (IsRowOf columns) (table_at (tables_of first calls) n).rows) columns_now (rows_are (tables_of first calls) n tables_now.rows).fits

  pub rising_now : AreRising (map (row_key (keys_at defs n)) (table_at (tables_of first calls) n).rows)
  rising_now = subst (λ (marks : List ℕ). AreRising (map (row_key marks) (table_at (tables_of first calls) n).rows)) keys_now (rows_are (tables_of first calls) n tables_now.rows).rising

-- ---- one call

before : (defs : List TableDef) (first : Tables) (op : _) (old : List Call) → PlaysFrom defs first (Did op ∷ old) → PlaysFrom defs first old
before defs first op old plays = record { tables = plays.tables; schema = plays.schema; answers = plays.answers.1; lacks = plays.lacks }

module _ (defs : List TableDef) (n : ℕ) (first : Tables) (old : List Call) where
  pub get_says : (key : ℕ) (answer : Option (List Value)) → PlaysFrom defs first (Did (Get n key answer) ∷ old) → answer ≡ row_at (keys_at defs n) (table_at (tables_of first old) n).rows key
  get_says key answer plays =
      let now = before defs first (Get n key answer) old plays in
      fact_at (tables_of first old) n (λ (t : TableRows). answer ≡ row_at t.def.keys t.rows key) plays.answers.0
      ∙ ap (λ (marks : List ℕ). row_at marks (table_at (tables_of first old) n).rows key) (keys_now defs n first old now)

  pub part_says : (lo upto : ℕ) (answer : Rows) → PlaysFrom defs first (Did (Part n lo upto answer) ∷ old) → answer ≡ rows_between (keys_at defs n) (table_at (tables_of first old) n).rows lo upto
  part_says lo upto answer plays =
      let now = before defs first (Part n lo upto answer) old plays in
      fact_at (tables_of first old) n (λ (t : TableRows). answer ≡ rows_between t.def.keys t.rows lo upto) plays.answers.0
      ∙ ap (λ (marks : List ℕ). rows_between marks (table_at (tables_of first old) n).rows lo upto) (keys_now defs n first old now)

  pub put_turns : (row : List Value) → PlaysFrom defs first (Did (Put n row) ∷ old) → Turns n (λ a b. b ≡ with_row (keys_at defs n) a row) (tables_of first old) (tables_of first (Did (Put n row) ∷ old))
  put_turns row plays =
      let now = before defs first (Put n row) old plays in
      let less = there (tables_of first old) n (λ (t : TableRows). IsRowOf t.def.columns row) plays.answers.0 in
      let turned = one_change n (λ t. with_row t.def.keys t.rows row) (tables_of first old) (tables_of first (Did (Put n row) ∷ old)) less refl in
      record { others = turned.others; rows = turned.rows ∙ ap (λ (marks : List ℕ). with_row marks (table_at (tables_of first old) n).rows row) (keys_now defs n first old now) }

  pub del_turns : (key : ℕ) (was : Bool) → PlaysFrom defs first (Did (Del n key was) ∷ old) → Turns n (λ a b. b ≡ without_key (keys_at defs n) a key) (tables_of first old) (tables_of first (Did (Del n key was) ∷ old))
  del_turns key was plays =
      let now = before defs first (Del n key was) old plays in
      let less = there (tables_of first old) n (λ (t : TableRows). _) plays.answers.0 in
      let turned = one_change n (λ t. without_key t.def.keys t.rows key) (tables_of first old) (tables_of first (Did (Del n key was) ∷ old)) less refl in
      record { others = turned.others; rows = turned.rows ∙ ap (λ (marks : List ℕ). without_key marks (table_at (tables_of first old) n).rows key) (keys_now defs n first old now) }
