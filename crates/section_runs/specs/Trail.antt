-- The tables that blocks lead to, one after the other.
use Rattle.std.specs.Prelude.{◌≡◌, ◌⊎◌, ℕ, List, [], ◌∷◌}
use Rattle.row_types.specs.declared.definition.TableDef.{TableDef}
use Rattle.row_types.specs.Tables.{Tables}
use Rattle.plain_model.specs.Blocks.{Said, block_means}
use Rattle.list_store.specs.Log.{BeginsWith}

-- each block, with its replies, leads from the tables before it to the next ones of the trail, the first
-- block from the first tables
abbrev pub Leads : Tables → List Said → List Tables → Type 0
Leads first [] trail = trail ≡ []
Leads first (said ∷ more) [] = ⊥
Leads first (said ∷ more) (next ∷ trail) =
    block_means said.block first said.replies next × Leads next more trail

-- the tables at the end of a trail
abbrev pub last_of : Tables → List Tables → Tables
last_of first [] = first
last_of first (next ∷ trail) = last_of next trail

-- the tables are an element of this list
abbrev pub IsAmong : Tables → List Tables → Type 0
IsAmong tables [] = ⊥
IsAmong tables (first ∷ more) = (tables ≡ first) ⊎ IsAmong tables more

-- over the log file a run begins with an element of this list of tables
abbrev pub BeginsAmong : List TableDef → List Tables → List ℕ → Type 0
BeginsAmong defs [] bytes = ⊥
BeginsAmong defs (first ∷ more) bytes = BeginsWith defs first bytes ⊎ BeginsAmong defs more bytes
