use Rattle.std.proofs.Common.{inl}
use Rattle.test_files.proofs.area_files.put_image.Goals as goal

pub put_image-requires-clause-filling : goal.put_image-requires-clause-filling
put_image-requires-clause-filling c = inl (_, 0, c.in_ok-put_header.ensures.filling)

pub seal-requires : goal.seal-requires
seal-requires c = inl (_, c.in_ok-put_image.ensures.filling _ 0 c.in_ok-put_header.ensures.filling)

pub open_gate-requires : goal.open_gate-requires
open_gate-requires c = record { sealed = inl (_, c.in_ok-seal.ensures.sealed _ (c.in_ok-put_image.ensures.filling _ 0 c.in_ok-put_header.ensures.filling)) }
