-- Which rows the calls of a statement put and take away.
use Rattle.std.specs.Prelude.{◌≡◌, ℕ, List, [], ◌∷◌, map, Option, None, Some}
use Rattle.std.specs.List.{flat_map}
use Rattle.row_types.specs.declared.definition.TableDef.{TableDef}
use Rattle.row_types.specs.declared.row.Value.{Value}
use Rattle.row_types.specs.Keys.{row_key}
use Rattle.row_types.specs.Tables.{TableRows, Tables}
use Rattle.key_space.specs.Plays.{Rows}
use Rattle.sql_parse.specs.declared.statement.Statement.{Statement}
use Rattle.sql_parse.specs.declared.statement.Statement.TheVariants as statements
use Rattle.sql_check.specs.declared.plan.Plan.{Plan}
use Rattle.sql_check.specs.declared.plan.Plan.TheVariants as plans
use Rattle.sql_check.specs.Plans.{number_of}
use Rattle.plain_model.specs.Calls.{Call}
use Rattle.plain_model.specs.CallPlays.{tables_of}
use Rattle.plain_model.specs.Meaning.{kept, table_at}
use Rattle.plain_model.specs.Runs.{InOrder, keys_taken, rows_put}
use Rattle.plain_model.specs.Values.{changed_row}
use Rattle.sql_exec.specs.declared.act.Act.{Act}
use Rattle.sql_exec.specs.Acts.{delete_act, put_by, taken_by, update_act}
use Rattle.sql_exec.specs.Plays.{PlaysFrom}

-- the new row, where it can be made
abbrev pub rows_made : Option (List Value) → Rows
rows_made None = []
rows_made (Some row) = row ∷ []

-- the rows that a statement sets: those that an INSERT lists, or
-- the new ones that an UPDATE makes of the rows that it keeps
abbrev pub rows_set : TableDef → Statement → Rows → Rows
rows_set def (statements.Insert s) rows = s.rows
rows_set def (statements.Update s) rows =
    flat_map (λ row. rows_made (changed_row def.columns s.changes row)) (kept def.columns s.conditions rows)
rows_set def (statements.Delete s) rows = []
rows_set def (statements.Select s) rows = []
rows_set def (statements.Totals s) rows = []
rows_set def (statements.Create created) rows = []
rows_set def statements.Begin rows = []
rows_set def statements.Commit rows = []
rows_set def statements.Rollback rows = []

-- the keys that a statement takes away: those of the rows that a DELETE keeps
abbrev pub keys_cleared : TableDef → Statement → Rows → List ℕ
keys_cleared def (statements.Delete s) rows = map (row_key def.keys) (kept def.columns s.conditions rows)
keys_cleared def (statements.Insert s) rows = []
keys_cleared def (statements.Update s) rows = []
keys_cleared def (statements.Select s) rows = []
keys_cleared def (statements.Totals s) rows = []
keys_cleared def (statements.Create created) rows = []
keys_cleared def statements.Begin rows = []
keys_cleared def statements.Commit rows = []
keys_cleared def statements.Rollback rows = []

-- the calls since put the first of these rows and take the first of these keys away, in order and each once
pub record SendsOnly (rows : Rows) (keys : List ℕ) (old new : List Call) : Type 0 where
  pub put : InOrder rows (rows_put old) (rows_put new)
  pub taken : InOrder keys (keys_taken old) (keys_taken new)

-- the calls since put no row and take none away
pub record SendsNothing (old new : List Call) : Type 0 where
  pub put : rows_put new ≡ rows_put old
  pub taken : keys_taken new ≡ keys_taken old

-- so it is with those that a statement sets and takes away of its table
abbrev pub SendsFor : TableRows → Statement → List Call → List Call → Type 0
SendsFor t statement old new =
    SendsOnly (rows_set t.def statement t.rows) (keys_cleared t.def statement t.rows) old new

-- wherever the calls are those of some tables
abbrev pub SendsOfRows : List TableDef → Statement → List Call → List Call → Type 0
SendsOfRows defs statement old new =
    (first : Tables) → PlaysFrom defs first new
    → SendsFor (table_at (tables_of first old) (number_of defs statement)) statement old new

-- what the calls for a statement send: of the rows that the table has for UPDATE and DELETE,
-- of those that it lists for INSERT, whatever the tables are, and for the others nothing
abbrev pub Sends : List TableDef → Statement → List Call → List Call → Type 0
Sends defs (statements.Insert s) old new = SendsOnly s.rows [] old new
Sends defs (statements.Update s) old new = SendsOfRows defs (statements.Update s) old new
Sends defs (statements.Delete s) old new = SendsOfRows defs (statements.Delete s) old new
Sends defs statement old new = SendsNothing old new

-- ---- By the numbers of columns

-- wherever the calls are those of some tables, they send what is set and taken away of table n
abbrev pub ChangeSends : List TableDef → ℕ → (List Value → Act) → List Call → List Call → Type 0
ChangeSends defs n act old new =
    (first : Tables) → PlaysFrom defs first new
    → SendsOnly (flat_map (λ row. put_by (act row)) (table_at (tables_of first old) n).rows)
    (flat_map (λ row. taken_by (table_at (tables_of first old) n).def.keys (act row) row)
    (table_at (tables_of first old) n).rows) old new

-- what the calls for any plan send
abbrev pub PlanSends : List TableDef → ℕ → Plan → List Call → List Call → Type 0
PlanSends defs n (plans.Insert p) old new = SendsOnly p.rows [] old new
PlanSends defs n (plans.Update p) old new = ChangeSends defs n (update_act p) old new
PlanSends defs n (plans.Delete p) old new = ChangeSends defs n (delete_act p) old new
PlanSends defs n plan old new = SendsNothing old new
