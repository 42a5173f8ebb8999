-- What the reading of a log file finds.
use Rattle.std.specs.Prelude.{◌≡◌, ◌≢◌, ℕ, false, List, [], ◌∷◌, ◌++◌, map, Option}
use Rattle.std.specs.List.{AllByRecursion}
use Rattle.std.specs.Option.{ForSome}
use Rattle.plain_model.specs.Calls.{is_running}
use Rattle.row_types.specs.declared.definition.TableDef.{TableDef}
use Rattle.op_log.specs.Changes.{IsChange, body_text}
use Rattle.op_log.specs.declared.change.RowChange.{RowChange}
use Rattle.lane_format.specs.Lane.{IsLane, IsNotOpen}
use Rattle.call_log.specs.Played.{ArePlayed}
use Rattle.call_log.specs.History.{batches_of, bodies_of, gate_behind, last_batch, with_loaded}
use Rattle.list_keeper.specs.Past.{IsPast, Told, tables_in}
use Rattle.lane_format.specs.declared.segment.Batch.{Batch}
use Rattle.list_store.specs.Log.{IsNoBatch, MayBeLogged, logged_tables}
use Rattle.list_store.specs.declared.reading.Found.{Found}
use Rattle.list_store.specs.declared.reading.Found.TheVariants.{Log, NotOpen}

-- The keeper has played the batches up to a gate, and no transaction runs.
pub record HasRead (defs : List TableDef) (keeper : Told) (gate : ℕ) : Type 0 where
  pub past : IsPast keeper
  pub defs_are : keeper.defs ≡ defs
  pub idle : is_running keeper.calls ≡ false
  pub forced : last_batch keeper.calls ≡ []
  pub gate_is : gate ≡ gate_behind defs (batches_of keeper.calls)

-- the keeper has played one batch more, which has this body
pub record PlaysOne (old new : Told) (body : List ℕ) : Type 0 where
  pub batch : List RowChange
  pub calls : new.calls ≡ with_loaded old.calls batch
  pub fit : AllByRecursion (IsChange old.defs) batch
  pub some : batch ≢ []
  pub body_is : body ≡ body_text old.defs batch
  pub played : ArePlayed (tables_in old) batch

-- the first of these bodies are batches of a log, and the next one is no batch, from this place on
pub record StopsIn (defs : List TableDef) (bodies : List (List ℕ)) (at : ℕ) : Type 0 where
  pub batches : List (List RowChange)
  pub body : List ℕ
  pub rest : List (List ℕ)
  pub logged : MayBeLogged defs batches
  pub bodies_are : bodies ≡ bodies_of defs batches ++ body ∷ rest
  pub none : IsNoBatch defs (logged_tables defs batches) (gate_behind defs batches) body at

-- the bodies of batches as they were read
abbrev pub bodies_in : List Batch → List (List ℕ)
bodies_in batches = map (λ (batch : Batch). batch.body) batches

-- what was found is what the file reads as
abbrev pub IsFound : List TableDef → Option (List ℕ) → Found → Type 0
IsFound defs content (NotOpen keeper) =
    HasRead defs keeper 11 × (batches_of keeper.calls ≡ []) × ForSome content IsNotOpen
IsFound defs content (Log keeper gate) =
    HasRead defs keeper gate × ForSome content (IsLane 2 0 (bodies_of defs (batches_of keeper.calls)))
