use Rattle.std.proofs.Common.{◌∷◌, ◌++◌, [], length, subst}
use Rattle.std.specs.Prelude.{slice_index}
use Rattle.std.specs.List.{flat_map}
use Rattle.row_types.specs.SchemaText.{name_text, column_text, Puts}
use Rattle.row_types.proofs.Putting.{puts_then}
use Rattle.row_types.proofs.schema_text.put_table.Goals as goal

pub returns : goal.returns
returns c =
    let def = c.args.table.now in
    let columns = c.as_slice-columns.result.now in
    let keys = c.as_slice.result.now in
    let behind = puts_then (length columns ∷ slice_index keys 0 ∷ []) (flat_map column_text columns) c.put_name-at.new.into c.put-at.new.into c.put_columns.new.into
    c.put_name-at.result c.put-at.result c.put_columns.result c.put-at.ensures c.put_columns.ensures in
    let whole = puts_then (name_text def.name) (length columns ∷ slice_index keys 0 ∷ flat_map column_text columns) c.args.into.now c.put_name-at.new.into c.put_columns.new.into
    c.args.at c.put_name-at.result c.put_columns.result c.put_name-at.ensures behind in
    let of_columns = subst (λ cs. Puts (name_text def.name ++ (length cs ∷ slice_index keys 0 ∷ flat_map column_text cs)) c.args.into.now c.put_columns.new.into c.args.at c.put_columns.result) c.as_slice-columns.ensures whole in
    subst (λ ks. Puts (name_text def.name ++ (length def.columns ∷ slice_index ks 0 ∷ flat_map column_text def.columns)) c.args.into.now c.put_columns.new.into c.args.at c.put_columns.result) c.as_slice.ensures of_columns
