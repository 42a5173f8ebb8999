use Rattle.row_types.specs.SchemaText.{name_text, kind_text}
use Rattle.row_types.proofs.Putting.{puts_then}
use Rattle.row_types.proofs.schema_text.put_column.Goals as goal

pub returns : goal.returns
returns c =
    puts_then (name_text c.args.column.now.name) (kind_text c.args.column.now.kind) c.args.into.now c.put_name-at.new.into c.put_kind.new.into
    c.args.at c.put_name-at.result c.put_kind.result c.put_name-at.ensures c.put_kind.ensures
