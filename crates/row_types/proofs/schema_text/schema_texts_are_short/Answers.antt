use Rattle.row_types.proofs.SchemaTextLaws.{schema_short}
use Rattle.row_types.proofs.schema_text.schema_texts_are_short.Goals as goal

pub returns : goal.returns
returns c = schema_short
