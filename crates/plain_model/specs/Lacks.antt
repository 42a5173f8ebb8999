-- Where a refusal for lack of a resource may stand in place of the reply to
-- a statement: where nothing before it in the order of refusals applies.
use Rattle.std.specs.Prelude.{◌≡◌, Bool, true, not, is_none, List, [], ◌∷◌, ◌++◌, None, IsTrue, IsSome}
use Rattle.row_types.specs.declared.definition.TableDef.{TableDef}
use Rattle.row_types.specs.declared.row.Value.{Value}
use Rattle.row_types.specs.Tables.{TableRows, Tables, schema_of}
use Rattle.key_space.specs.Plays.{Rows}
use Rattle.sql_parse.specs.declared.statement.Statement.{Statement}
use Rattle.sql_parse.specs.declared.statement.Statement.TheVariants as statements
use Rattle.sql_check.specs.KeyRange.{range_of, range_of_rows}
use Rattle.sql_check.specs.Plans.{number_of}
use Rattle.plain_model.specs.declared.stop.Resource.{Resource}
use Rattle.plain_model.specs.declared.stop.Resource.TheVariants.{Pages, Nodes, Txn, Locks, LogFull, Busy}
use Rattle.plain_model.specs.Meaning.{duplicate, is_out_of_range, kept, table_at, unfit}

-- some row of a list isn't refused, and none before it is,
-- where the test says of the first rows that none of them is
pub record IsReached (none_refused : Rows → Bool) (rows : Rows) : Type 0 where
  pub front : Rows
  pub row : List Value
  pub rest : Rows
  pub split : rows ≡ front ++ row ∷ rest
  pub good : IsTrue (none_refused (front ++ row ∷ []))

-- the statement is about some key, so that it asks for a lock
abbrev pub NeedsLock : TableDef → Statement → Type 0
NeedsLock def (statements.Insert s) = IsSome (range_of_rows def.keys s.rows)
NeedsLock def (statements.Select s) = IsSome (range_of def s.conditions)
NeedsLock def (statements.Totals s) = IsSome (range_of def s.conditions)
NeedsLock def (statements.Update s) = IsSome (range_of def s.conditions)
NeedsLock def (statements.Delete s) = IsSome (range_of def s.conditions)
NeedsLock def (statements.Create created) = ⊥
NeedsLock def statements.Begin = ⊥
NeedsLock def statements.Commit = ⊥
NeedsLock def statements.Rollback = ⊥

-- the statement comes to a row that it adds
abbrev pub AddsRow : TableRows → Statement → Type 0
AddsRow t (statements.Insert s) = IsReached (λ rows. is_none (duplicate t.def.keys t.rows rows)) s.rows
AddsRow t (statements.Select s) = ⊥
AddsRow t (statements.Totals s) = ⊥
AddsRow t (statements.Update s) = ⊥
AddsRow t (statements.Delete s) = ⊥
AddsRow t (statements.Create created) = ⊥
AddsRow t statements.Begin = ⊥
AddsRow t statements.Commit = ⊥
AddsRow t statements.Rollback = ⊥

-- the statement comes to a row that it adds, changes or takes away
abbrev pub ChangesRow : TableRows → Statement → Type 0
ChangesRow t (statements.Insert s) = IsReached (λ rows. is_none (duplicate t.def.keys t.rows rows)) s.rows
ChangesRow t (statements.Update s) =
    IsReached (λ rows. not (is_out_of_range t.def.columns s.changes rows))
    (kept t.def.columns s.conditions t.rows)
ChangesRow t (statements.Delete s) = IsReached (λ rows. true) (kept t.def.columns s.conditions t.rows)
ChangesRow t (statements.Select s) = ⊥
ChangesRow t (statements.Totals s) = ⊥
ChangesRow t (statements.Create created) = ⊥
ChangesRow t statements.Begin = ⊥
ChangesRow t statements.Commit = ⊥
ChangesRow t statements.Rollback = ⊥

-- the step of a statement at which this resource is asked for
abbrev pub AsksFor : TableRows → Statement → Resource → Type 0
AsksFor t statement (Locks held limit) = NeedsLock t.def statement
AsksFor t statement (Pages used limit) = AddsRow t statement
AsksFor t statement (Nodes used limit) = AddsRow t statement
AsksFor t statement (Txn used limit) = ChangesRow t statement
AsksFor t statement (LogFull bytes limit) = ⊥
AsksFor t statement (Busy oldest) = ⊥

-- a statement may be refused for lack of this resource: it
-- fits the tables, and comes to the step that asks for it
pub record MayLack (tables : Tables) (statement : Statement) (resource : Resource) : Type 0 where
  pub fits : unfit tables statement ≡ None
  pub asks : AsksFor (table_at tables (number_of (schema_of tables) statement)) statement resource
