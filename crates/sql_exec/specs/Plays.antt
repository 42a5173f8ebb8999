-- Where the calls of an object are those of some tables.
use Rattle.std.specs.Prelude.{◌≡◌, ℕ, List, [], ◌∷◌, None, ⊤}
use Rattle.row_types.specs.declared.definition.TableDef.{TableDef}
use Rattle.row_types.specs.declared.row.Value.{Value}
use Rattle.row_types.specs.Keys.{row_key}
use Rattle.row_types.specs.Tables.{Tables, AreTables, schema_of}
use Rattle.key_space.specs.Plays.{Rows, OfTable, row_at, changed}
use Rattle.plain_model.specs.declared.stop.Stop.{Stop}
use Rattle.plain_model.specs.declared.stop.Stop.TheVariants.{Refused}
use Rattle.plain_model.specs.declared.stop.Resource.TheVariants.{Pages, Nodes}
use Rattle.plain_model.specs.Calls.{Asked, AskPut, Call, Began, Committed, Undone, Locked, Did, Opened}
use Rattle.plain_model.specs.Calls.{Stopped}
use Rattle.plain_model.specs.CallPlays.{CallsPlay, tables_of}
use Rattle.plain_model.specs.Meaning.{table_at}

-- no row of these tables has the key of a row of table n
abbrev pub IsNewIn : Tables → ℕ → List Value → Type 0
IsNewIn tables n row = OfTable tables n (λ t. row_at t.def.keys t.rows (row_key t.def.keys row) ≡ None)

-- pages and nodes are lacking for a row whose key isn't there, and for no other
abbrev pub LacksFor : Tables → Asked → Stop → Type 0
LacksFor tables (AskPut n row) (Refused (Pages used limit)) = IsNewIn tables n row
LacksFor tables (AskPut n row) (Refused (Nodes used limit)) = IsNewIn tables n row
LacksFor tables asked stop = ⊤

-- so it is with each stop since the last begin
abbrev pub LacksPlay : Tables → List Call → Type 0
LacksPlay first [] = ⊤
LacksPlay first (Began age number ∷ calls) = ⊤
LacksPlay first (Committed ∷ calls) = LacksPlay first calls
LacksPlay first (Undone ∷ calls) = LacksPlay first calls
LacksPlay first (Locked name mode ∷ calls) = LacksPlay first calls
LacksPlay first (Did op ∷ calls) = LacksPlay first calls
LacksPlay first (Opened generation ∷ calls) = LacksPlay first calls
LacksPlay first (Stopped asked stop ∷ calls) =
    LacksFor (tables_of first calls) asked stop × LacksPlay first calls

-- what was called since the last begin is answered as tables of this schema answer it, from these on
pub record PlaysFrom (defs : List TableDef) (first : Tables) (calls : List Call) : Type 0 where
  pub tables : AreTables first
  pub schema : schema_of first ≡ defs
  pub answers : CallsPlay first calls
  pub lacks : LacksPlay first calls

-- table n is the only one that may have changed, and its rows before and after are so
pub record Turns (n : ℕ) (Fact : Rows → Rows → Type 0) (old new : Tables) : Type 0 where
  pub others : new ≡ changed old n (λ t. (table_at new n).rows)
  pub rows : Fact (table_at old n).rows (table_at new n).rows

-- so it is wherever the calls are those of some tables
abbrev pub OnTable : List TableDef → ℕ → (Rows → Rows → Type 0) → List Call → List Call → Type 0
OnTable defs n Fact old new =
    (first : Tables) → PlaysFrom defs first new → Turns n Fact (tables_of first old) (tables_of first new)
