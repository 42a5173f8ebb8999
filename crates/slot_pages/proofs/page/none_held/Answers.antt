use Rattle.std.proofs.Common.{refl}
use Rattle.slot_pages.specs.State.{none_held}
use Rattle.slot_pages.proofs.page.none_held.Goals as goal

pub returns : goal.returns
unfolding none_held
returns c = refl
