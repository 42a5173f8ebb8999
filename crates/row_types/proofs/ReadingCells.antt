-- Reading columns one after another.
use Rattle.std.proofs.Common.{◌≡◌, ℕ, ◌+◌, ◌-◌, ◌<◌, List, [], ◌∷◌, ◌++◌, length, get_or, take, drop, None, refl, sym, ◌∙◌, ap, append_assoc, arith}
use Rattle.std.proofs.lemmas.List.{drop-drop}
use Rattle.row_types.specs.declared.definition.Column.{Column}
use Rattle.row_types.specs.declared.row.Value.{Value}
use Rattle.row_types.specs.Slot.{width, cell_fault, cells_fault}
use Rattle.row_types.specs.Reading.{cell_value, cells_values}
use Rattle.row_types.proofs.Cells.{columns_from, cells_fault_more}
use Rattle.row_types.proofs.SchemaLaws.{neither}

-- one column of the loop over them
module _ (at w i : ℕ) (columns : List Column) (c : Column) (bytes : List ℕ) (inside : i < length columns) (is : c ≡ get_or columns i c) (w-is : w ≡ width c.kind) where
  -- without a fault in the rest there is none in the column, and none behind it
  pub no_fault_more : cells_fault (at + 1) (drop i columns) (drop at bytes) ≡ None
      → (cell_fault (at + 1) c.kind (take (at + w - at) (drop at bytes)) ≡ None) × (cells_fault (at + w + 1) (drop (i + 1) columns) (drop (at + w) bytes) ≡ None)
  no_fault_more none =
      let n : at + w - at ≡ width c.kind = omega arith in
      let place : at + 1 + width c.kind ≡ at + w + 1 = omega arith in
      let both = neither _ _ (sym (cells_fault_more (at + 1) columns i c (drop at bytes) inside is) ∙ none) in
      let rest : drop (at + w) bytes ≡ drop (width c.kind) (drop at bytes) = rw (← w-is, drop-drop w at bytes) refl in
      (rw n both.0, rw (rest, ← place) both.1)

  -- the column's value stands between those before it and those behind it
  pub values_more : (front total : List Value) (v : Value) → v ≡ cell_value c.kind (take (at + w - at) (drop at bytes)) → front ++ cells_values (drop i columns) (drop at bytes) ≡ total
      → (front ++ v ∷ []) ++ cells_values (drop (i + 1) columns) (drop (at + w) bytes) ≡ total
  values_more front total v v-is so_far =
      let n : at + w - at ≡ width c.kind = omega arith in
      let rest : drop (at + w) bytes ≡ drop (width c.kind) (drop at bytes) = rw (← w-is, drop-drop w at bytes) refl in
      let from : cells_values (drop i columns) (drop at bytes) ≡ v ∷ cells_values (drop (i + 1) columns) (drop (at + w) bytes) = rw (columns_from columns i c inside is, v-is, n, rest) refl in
      append_assoc front (v ∷ []) _ ∙ ap (λ (vs : List Value). front ++ vs) (sym from) ∙ so_far
