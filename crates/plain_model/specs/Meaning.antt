-- What a statement means: the reply to it, and the tables after it.
use Rattle.std.specs.Prelude.{ℕ, Bool, not, ◌-◌, ◌^◌, min, if◌then◌else◌, is_none, ℤ, pos, ◌+ℤ◌, List, []}
use Rattle.std.specs.Prelude.{◌∷◌, length, map, reverse, take, filter, fold, slice_get, unwrap_or, Option}
use Rattle.std.specs.Prelude.{None, Some, option_and_then}
use Rattle.std.specs.List.{list_any, list_all}
use Rattle.row_types.specs.declared.definition.Column.{Column}
use Rattle.row_types.specs.declared.definition.TableDef.{TableDef}
use Rattle.row_types.specs.declared.row.Value.{Value}
use Rattle.row_types.specs.declared.row.Value.TheVariants as values
use Rattle.row_types.specs.Keys.{int_at, row_key}
use Rattle.row_types.specs.Tables.{TableRows, Tables, schema_of, empty_table}
use Rattle.key_space.specs.Plays.{Rows, row_at, with_row, changed}
use Rattle.sql_parse.specs.declared.statement.Statement.{Statement}
use Rattle.sql_parse.specs.declared.statement.Statement.TheVariants as statements
use Rattle.sql_parse.specs.declared.statement.Change.{Change}
use Rattle.sql_parse.specs.declared.statement.Condition.{Condition}
use Rattle.sql_parse.specs.declared.statement.Order.{Order}
use Rattle.sql_parse.specs.declared.statement.Shown.{Shown}
use Rattle.sql_parse.specs.declared.statement.Shown.TheVariants as showns
use Rattle.sql_parse.specs.declared.statement.Total.{Total}
use Rattle.sql_parse.specs.declared.statement.Total.TheVariants as totals
use Rattle.sql_check.specs.Columns.{no_def, column_number}
use Rattle.sql_check.specs.Misfits.{misfit}
use Rattle.sql_check.specs.Plans.{number_of}
use Rattle.plain_model.specs.declared.reply.Reply.{Reply}
use Rattle.plain_model.specs.declared.reply.Reply.TheVariants as reply
use Rattle.plain_model.specs.declared.reply.Refusal.{Refusal}
use Rattle.plain_model.specs.declared.reply.Refusal.TheVariants.{Duplicate, Range}
use Rattle.plain_model.specs.Refusals.{refusal_of_check}
use Rattle.plain_model.specs.Values.{cell, is_kept, fits_int, changed_row}

-- a number of rows, as far as 64 bits count
abbrev pub count_of : Rows → ℕ
count_of rows = min (length rows) (2 ^ 64 - 1)

-- the rows that WHERE keeps: those for which every condition holds
abbrev pub kept : List Column → List Condition → Rows → Rows
kept columns conditions rows = filter (is_kept columns conditions) rows

-- ---- INSERT

-- the rows, with new ones set in their places one after the other
abbrev pub with_rows : List ℕ → Rows → Rows → Rows
with_rows marks rows [] = rows
with_rows marks rows (row ∷ more) = with_rows marks (with_row marks rows row) more

-- the first new row whose key is there already, of the rows or of a new row before it
abbrev pub duplicate : List ℕ → Rows → Rows → Option (List Value)
duplicate marks rows [] = None
duplicate marks rows (row ∷ more) =
    if is_none (row_at marks rows (row_key marks row)) then duplicate marks (with_row marks rows row) more
    else Some row

-- the numbers in the key columns of a row
abbrev pub key_numbers : List ℕ → List Value → List ℤ
key_numbers marks row = map (int_at row) marks

-- the new rows are added, unless the key of one is there already
abbrev pub inserts_unless : Option (List Value) → TableDef → Rows → Rows → Reply × Rows
inserts_unless None def new rows = (reply.Many (count_of new), with_rows def.keys rows new)
inserts_unless (Some row) def new rows = (reply.Refused (Duplicate (key_numbers def.keys row)), rows)

-- INSERT adds its rows in their order
abbrev pub inserts : TableDef → Rows → Rows → Reply × Rows
inserts def new rows = inserts_unless (duplicate def.keys rows new) def new rows

-- ---- SELECT

-- the values of a row that are shown
abbrev pub shown : List Column → Shown → List Value → List Value
shown columns showns.All row = row
shown columns (showns.Columns names) row = map (cell columns row) names

-- rows in rising order of their keys as they are, or with DESC the other way round
abbrev pub ordered : Option Order → Rows → Rows
ordered None rows = rows
ordered (Some order) rows = if order.is_falling then reverse rows else rows

-- at most LIMIT of the rows, from the first on
abbrev pub limited : Option ℕ → Rows → Rows
limited None rows = rows
limited (Some limit) rows = take limit rows

-- the sum of a column of whole numbers over rows, 0 for none
abbrev pub sum_of : List Column → List ℕ → Rows → ℤ
sum_of columns name rows = fold (λ sum row. sum +ℤ int_at row (column_number columns name)) (pos 0) rows

-- COUNT(*), the number of rows, or SUM, the sum of a column
abbrev pub total_of : List Column → Rows → Total → ℤ
total_of columns rows totals.Count = pos (length rows)
total_of columns rows (totals.Sum name) = sum_of columns name rows

-- totals give one row; RANGE where one of them leaves -2^63 to 2^63 - 1
abbrev pub totals_reply : List ℤ → Reply
totals_reply numbers =
    if list_all fits_int numbers then reply.Rows (map values.Int numbers ∷ []) else reply.Refused Range

-- ---- UPDATE and DELETE

-- some new row of these can't be made
abbrev pub is_out_of_range : List Column → List Change → Rows → Bool
is_out_of_range columns changes rows = list_any (λ row. is_none (changed_row columns changes row)) rows

-- a row after an UPDATE: the new one where it is kept, else the old one
abbrev pub updated : List Column → List Change → List Condition → List Value → List Value
updated columns changes conditions row =
    if is_kept columns conditions row then unwrap_or (changed_row columns changes row) row else row

-- UPDATE changes the kept rows; RANGE where a step of an expression leaves -2^63 to 2^63 - 1 on one of them
abbrev pub updates : List Column → List Change → List Condition → Rows → Reply × Rows
updates columns changes conditions rows =
    if is_out_of_range columns changes (kept columns conditions rows) then (reply.Refused Range, rows)
    else (reply.Many (count_of (kept columns conditions rows)), map (updated columns changes conditions) rows)

-- DELETE takes the kept rows away
abbrev pub deletes : List Column → List Condition → Rows → Reply × Rows
deletes columns conditions rows = (
  reply.Many (count_of (kept columns conditions rows)),
  filter
      (λ row. not (is_kept columns conditions row)) rows,
)

-- ---- Any statement

-- what a statement that fits means on its table: the reply, and the rows after it
abbrev pub acts : TableDef → Statement → Rows → Reply × Rows
acts def (statements.Insert s) rows = inserts def s.rows rows
acts def (statements.Select s) rows = (
  reply.Rows
      (map (shown def.columns s.shown)
      (limited s.limit (ordered s.order (kept def.columns s.conditions rows)))),
  rows,
)
acts def (statements.Totals s) rows =
    (totals_reply (map (total_of def.columns (kept def.columns s.conditions rows)) s.totals), rows)
acts def (statements.Update s) rows = updates def.columns s.changes s.conditions rows
acts def (statements.Delete s) rows = deletes def.columns s.conditions rows
acts def (statements.Create created) rows = (reply.Done, rows)
acts def statements.Begin rows = (reply.Done, rows)
acts def statements.Commit rows = (reply.Done, rows)
acts def statements.Rollback rows = (reply.Done, rows)

-- table number n, one without columns and rows where there is none
abbrev pub table_at : Tables → ℕ → TableRows
table_at tables n = unwrap_or (slice_get tables n) (empty_table no_def)

-- what a statement that fits means on the table that it is on
abbrev pub acts_on : Tables → ℕ → Statement → Reply × Tables
acts_on tables n statement = (
  (acts (table_at tables n).def statement (table_at tables n).rows).0,
  changed tables n (λ t. (acts t.def statement t.rows).1),
)

-- why a statement doesn't fit the tables, by name, kind or count
abbrev pub unfit : Tables → Statement → Option Refusal
unfit tables statement = option_and_then refusal_of_check (misfit (schema_of tables) statement)

-- a statement is refused, or it acts on its table
abbrev pub means_unless : Option Refusal → Tables → Statement → Reply × Tables
means_unless None tables statement = acts_on tables (number_of (schema_of tables) statement) statement
means_unless (Some refusal) tables statement = (reply.Refused refusal, tables)

-- what a statement means on tables: the reply, and the tables after it
abbrev pub means : Tables → Statement → Reply × Tables
means tables statement = means_unless (unfit tables statement) tables statement
