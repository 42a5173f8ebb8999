use Rattle.script.proofs.LineLaws.{header_first}
use Rattle.script.proofs.line.first_header.Goals as goal

pub returns : goal.returns
returns c = header_first c.args.bytes.now c.line_len.result c.trimmed_len.result _ c.line_len.ensures.line c.trimmed_len.ensures.trimmed c.header_of.ensures
