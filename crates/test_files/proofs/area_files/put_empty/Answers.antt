use Rattle.std.proofs.Common.{inl}
use Rattle.test_files.proofs.area_files.put_empty.Goals as goal

pub open_gate-requires : goal.open_gate-requires
open_gate-requires c = record { sealed = inl (_, c.in_ok-seal.ensures.sealed _ c.in_ok-put_header.ensures.filling) }
