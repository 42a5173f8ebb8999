-- How far a body was read.
use Rattle.std.specs.Prelude.{◌≡◌, ℕ, ◌≤◌, List, ◌++◌, length, drop}
use Rattle.std.specs.List.{AllByRecursion}
use Rattle.row_types.specs.declared.definition.TableDef.{TableDef}
use Rattle.op_log.specs.Changes.{IsChange, body_text}
use Rattle.op_log.specs.declared.change.RowChange.{RowChange}

-- the body begins with these changes, which end at this place
pub record RunsTo (defs : List TableDef) (body : List ℕ) (changes : List RowChange) (end : ℕ) : Type 0 where
  pub fit : AllByRecursion (IsChange defs) changes
  pub text : body ≡ body_text defs changes ++ drop end body
  pub end_is : end ≡ length (body_text defs changes)
  pub inside : end ≤ length body
