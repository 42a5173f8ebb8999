-- A batch of changes that are owed to no page.
use Rattle.std.proofs.Common.{◌≡◌, ℕ, List, [], ◌∷◌, ◌++◌, refl, ◌∙◌, arith, All}
use Rattle.std.proofs.lemmas.List.Elements.{All-tail}
use Rattle.xor_records.specs.Record.{Record, Diff, Commit, End}
use Rattle.xor_records.specs.Replay.{PageName, PageImage, ended, restarted}
use Rattle.xor_records.proofs.ReplayLaws.{open_is_not_there, no_order}
use Rattle.replay_core.specs.Laws.{IsOpenChange, OpenBatchLeaves}

open_ended : (images : List PageImage) (records batch : List Record) → All (IsOpenChange images (ended records)) batch
    → (txn : ℕ) → ended (batch ++ records) txn ≡ ended records txn
open_ended images records [] h txn = refl
open_ended images records (Diff head xor ∷ rs) h txn =
    open_ended images records rs (All-tail (IsOpenChange images (ended records)) (Diff head xor) rs h) txn
open_ended images records (Commit t ∷ rs) h txn = absurd (h 0 (Commit t) (omega arith))
open_ended images records (End t ∷ rs) h txn = absurd (h 0 (End t) (omega arith))

open_leaves : (images : List PageImage) (records batch : List Record) (name : PageName)
    → All (IsOpenChange images (ended records)) batch
    → restarted images (batch ++ records) name ≡ restarted images records name
open_leaves images records [] name h = refl
open_leaves images records (Diff head xor ∷ rs) name h =
    let first : IsOpenChange images (ended records) (Diff head xor) = h 0 (Diff head xor) (omega arith) in
    let rest = All-tail (IsOpenChange images (ended records)) (Diff head xor) rs h in
    open_is_not_there images (rs ++ records) head xor first.0 (open_ended images records rs rest head.txn ∙ first.1) name
    ∙ open_leaves images records rs name rest
open_leaves images records (Commit t ∷ rs) name h = absurd (h 0 (Commit t) (omega arith))
open_leaves images records (End t ∷ rs) name h = absurd (h 0 (End t) (omega arith))

pub open_batch : OpenBatchLeaves
open_batch images records batch others name p h =
    no_order images (batch ++ records) others name p ∙ open_leaves images records batch name h
