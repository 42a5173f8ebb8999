-- A list of one image.
use Rattle.std.proofs.Common.{◌≡◌, [], ◌∷◌, length, All}
use Rattle.std.proofs.lemmas.List.Elements.{All-cons, All-nil}
use Rattle.std.specs.List.Sorted.{IsStrictlySortedBy}
use Rattle.xor_records.specs.Replay.{PageImage}
use Rattle.replay_core.specs.Pages.{IsWhole, AreImages}

pub one : (image : PageImage) → length image.bytes ≡ 4096 → AreImages (image ∷ [])
unfolding IsStrictlySortedBy
one image e = record { rising = (tt, tt); whole = All-cons IsWhole image [] e (All-nil IsWhole) }
