-- What is done with the rows of a piece.
use Rattle.std.specs.Prelude.{◌≡◌, ◌<◌, ◌⊎◌, ℕ, ◌+◌, Bool, true, false, List, length, [], ◌∷◌, ◌++◌, Option}
use Rattle.std.specs.Prelude.{None, Some, Result, Ok, Err, ⊤}
use Rattle.std.specs.List.{flat_map}
use Rattle.row_types.specs.declared.definition.TableDef.{TableDef}
use Rattle.row_types.specs.declared.row.Value.{Value}
use Rattle.row_types.specs.Keys.{row_key}
use Rattle.row_types.specs.Schema.{keys_at}
use Rattle.row_types.specs.Tables.{Tables}
use Rattle.key_space.specs.declared.range.Range.{Range}
use Rattle.key_space.specs.Plays.{Rows, Put, Del, row_at}
use Rattle.plain_model.specs.declared.stop.Resource.{Resource}
use Rattle.plain_model.specs.declared.stop.Resource.TheVariants.{Pages, Nodes, Txn}
use Rattle.plain_model.specs.declared.stop.Stop.{Stop}
use Rattle.plain_model.specs.declared.stop.Stop.TheVariants as stops
use Rattle.plain_model.specs.CallPlays.{tables_of}
use Rattle.plain_model.specs.Calls.{AskDel, AskPut, Call, Did}
use Rattle.plain_model.specs.Meaning.{table_at}
use Rattle.plain_model.specs.Runs.{pushed, keys_taken, rows_put}
use Rattle.sql_exec.specs.declared.act.Act.{Act}
use Rattle.sql_exec.specs.declared.act.Act.TheVariants.{Keep, Set, Take, Refuse}
use Rattle.sql_exec.specs.declared.act.ChangePlan.{ChangePlan}
use Rattle.sql_exec.specs.declared.act.ChangePlan.TheVariants as changes
use Rattle.sql_exec.specs.declared.act.Passed.{Passed}
use Rattle.sql_exec.specs.Acts.{act_of, acted_in, done_count, effects, is_done, is_refused, put_by, rows_in}
use Rattle.sql_exec.specs.Acts.{some_refused, taken_by}
use Rattle.sql_exec.specs.Bodies.{Gives}
use Rattle.sql_exec.specs.Fits.{ChangesInPlace}
use Rattle.sql_exec.specs.Plays.{OnTable, PlaysFrom}
use Rattle.sql_exec.specs.Sends.{SendsOnly}

-- ---- One row

-- what is done was called
abbrev pub DidAct : List ℕ → ℕ → Act → List Value → List Call → List Call → Type 0
DidAct marks table Keep row old new = new ≡ old
DidAct marks table (Set other) row old new = new ≡ Did (Put table other) ∷ old
DidAct marks table Take row old new = (was : Bool) × (new ≡ Did (Del table (row_key marks row) was) ∷ old)
DidAct marks table Refuse row old new = new ≡ old

-- the call gave this stop
abbrev pub StoppedAct : List ℕ → ℕ → Act → List Value → Stop → List Call → List Call → Type 0
StoppedAct marks table (Set other) row stop old new = Gives (AskPut table other) stop old new
StoppedAct marks table Take row stop old new = Gives (AskDel table (row_key marks row)) stop old new
StoppedAct marks table Keep row stop old new = ⊥
StoppedAct marks table Refuse row stop old new = ⊥

-- how it went with one row
abbrev pub ActsOne : List ℕ → ℕ → Act → List Value → List Call → Result (Option Bool) Stop → List Call
    → Type 0
ActsOne marks table act row old (Ok (Some done)) new =
    (done ≡ is_done act) × (is_refused act ≡ false) × DidAct marks table act row old new
ActsOne marks table act row old (Ok None) new = (act ≡ Refuse) × (new ≡ old)
ActsOne marks table act row old (Err stop) new =
    ((stop ≡ stops.OutOfMemory) × (new ≡ old)) ⊎ StoppedAct marks table act row stop old new

-- ---- The rows of a list

-- one comes to a row with which something is to be done, and none before it is refused
pub record ComesTo (act : List Value → Act) (rows front : Rows) (row : List Value) : Type 0 where
  pub rest : Rows
  pub split : rows ≡ front ++ row ∷ rest
  pub good : some_refused act (front ++ row ∷ []) ≡ false
  pub done : is_done (act row) ≡ true

-- for the row come to this resource is lacking, where the rows
-- now are these: pages and nodes where its new row has no place
abbrev pub LacksAt : List ℕ → Act → Rows → Resource → Type 0
LacksAt marks (Set new) now (Pages used limit) = row_at marks now (row_key marks new) ≡ None
LacksAt marks (Set new) now (Nodes used limit) = row_at marks now (row_key marks new) ≡ None
LacksAt marks act now (Txn used limit) = ⊤
LacksAt marks act now resource = ⊥

-- so one stopped in the middle of a list
pub record StopsAt (marks : List ℕ) (act : List Value → Act) (rows : Rows) (resource : Resource)
    (old new : Rows) : Type 0 where
  pub front : Rows
  pub row : List Value
  pub comes : ComesTo act rows front row
  pub now : new ≡ effects marks act front old
  pub lacks : LacksAt marks (act row) new resource

-- how it went with the rows of a list, by the rows of the table before and now
abbrev pub ListEnds : List ℕ → (List Value → Act) → Rows → Result (Option ℕ) Stop → Rows → Rows → Type 0
ListEnds marks act list (Ok (Some count)) old new =
    (new ≡ effects marks act list old) × (some_refused act list ≡ false) × (count ≡ done_count act list)
ListEnds marks act list (Ok None) old new = some_refused act list ≡ true
ListEnds marks act list (Err (stops.Refused resource)) old new = StopsAt marks act list resource old new
ListEnds marks act list (Err stop) old new = ⊤

-- all rows and keys of a list were sent
pub record SendsAll (rows : Rows) (keys : List ℕ) (old new : List Call) : Type 0 where
  pub put : rows_put new ≡ pushed rows (rows_put old)
  pub taken : keys_taken new ≡ pushed keys (keys_taken old)

-- what was sent for the rows of a list: all of it, or the front
abbrev pub ListSends : List ℕ → (List Value → Act) → Rows → Result (Option ℕ) Stop → List Call → List Call
    → Type 0
ListSends marks act list (Ok (Some count)) old new =
    SendsAll (flat_map (λ row. put_by (act row)) list)
    (flat_map (λ row. taken_by marks (act row) row) list) old new
ListSends marks act list (Ok None) old new =
    SendsOnly (flat_map (λ row. put_by (act row)) list)
    (flat_map (λ row. taken_by marks (act row) row) list) old new
ListSends marks act list (Err stop) old new =
    SendsOnly (flat_map (λ row. put_by (act row)) list)
    (flat_map (λ row. taken_by marks (act row) row) list) old new

-- how the run over a list of rows ended
pub record ActsAll (defs : List TableDef) (table : ℕ) (plan : ChangePlan) (list : Rows) (old : List Call)
    (result : Result (Option ℕ) Stop) (new : List Call) : Type 0 where
  pub plain : OnTable defs table (ListEnds (keys_at defs table) (act_of plan) list result) old new
  pub sent : ListSends (keys_at defs table) (act_of plan) list result old new

-- ---- A piece

-- bytes of the log are lacking for a row of the range that is come to
abbrev pub LacksIn : List ℕ → (List Value → Act) → Range → Rows → Resource → Type 0
LacksIn marks act range rows (Txn used limit) =
    (front : Rows) × (row : List Value)
    × ComesTo act (rows_in marks range.lo.number (range.hi.number + 1) rows) front row
LacksIn marks act range rows resource = ⊥

-- how the run over a piece ended: the rows up to its end are done
-- with, or a row of the range is refused, or lacks a resource
abbrev pub PieceEnds : List ℕ → (List Value → Act) → Range → Result (Option Passed) Stop → Rows → Rows
    → Type 0
PieceEnds marks act range (Ok (Some passed)) old new =
    (new ≡ acted_in marks range.lo.number (passed.upto.number + 1) act old)
    × (some_refused act (rows_in marks range.lo.number (passed.upto.number + 1) old) ≡ false)
    × (passed.count ≡ done_count act (rows_in marks range.lo.number (passed.upto.number + 1) old))
PieceEnds marks act range (Ok None) old new =
    some_refused act (rows_in marks range.lo.number (range.hi.number + 1) old) ≡ true
PieceEnds marks act range (Err (stops.Refused resource)) old new = LacksIn marks act range old resource
PieceEnds marks act range (Err stop) old new = ⊤

-- what was sent for a piece: all of its rows, or the front of those of the range
abbrev pub PieceSends : List ℕ → (List Value → Act) → Range → Result (Option Passed) Stop → Rows → List Call
    → List Call → Type 0
PieceSends marks act range (Ok (Some passed)) rows old new =
    SendsAll
    (flat_map (λ row. put_by (act row)) (rows_in marks range.lo.number (passed.upto.number + 1) rows))
    (flat_map (λ row. taken_by marks (act row) row)
    (rows_in marks range.lo.number (passed.upto.number + 1) rows)) old new
PieceSends marks act range (Ok None) rows old new =
    SendsOnly (flat_map (λ row. put_by (act row)) (rows_in marks range.lo.number (range.hi.number + 1) rows))
    (flat_map (λ row. taken_by marks (act row) row)
    (rows_in marks range.lo.number (range.hi.number + 1) rows)) old new
PieceSends marks act range (Err stop) rows old new =
    SendsOnly (flat_map (λ row. put_by (act row)) (rows_in marks range.lo.number (range.hi.number + 1) rows))
    (flat_map (λ row. taken_by marks (act row) row)
    (rows_in marks range.lo.number (range.hi.number + 1) rows)) old new

-- the plan changes rows of this table, which is there, in their places
abbrev pub IsOfTable : List TableDef → ℕ → ChangePlan → Type 0
IsOfTable defs table (changes.Update p) =
    (table < length defs) × (p.now.table ≡ table) × ChangesInPlace defs table p.now.changes
IsOfTable defs table (changes.Delete p) = (table < length defs) × (p.now.table ≡ table)

-- how the run over the first piece of a range ended
pub record ActsPiece (defs : List TableDef) (table : ℕ) (plan : ChangePlan) (range : Range) (old : List Call)
    (result : Result (Option Passed) Stop) (new : List Call) : Type 0 where
  pub plain : OnTable defs table (PieceEnds (keys_at defs table) (act_of plan) range result) old new
  pub sent : (first : Tables) → PlaysFrom defs first new
      → PieceSends (keys_at defs table) (act_of plan) range result (table_at (tables_of first old) table).rows old
      new
