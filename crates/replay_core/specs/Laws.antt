-- What holds of the pages that images and records stand for, for those who read logs.
use Rattle.std.specs.Prelude.{ℕ, Bool, false, List, ◌≡◌, ◌++◌, All, IsPermutation}
use Rattle.xor_records.specs.Record.{Record, Diff, Commit, End}
use Rattle.xor_records.specs.Replay.{PageName, PageImage, ended, restarted, is_there, zeros}
use Rattle.xor_records.specs.Laws.{IsAbove}

-- a change above its page's stamp, of a transaction that hasn't ended
abbrev pub IsOpenChange : List PageImage → (ℕ → Bool) → Record → Type 0
IsOpenChange images has_ended (Diff head xor) = IsAbove images head × (has_ended head.txn ≡ false)
IsOpenChange images has_ended (Commit txn) = ⊥
IsOpenChange images has_ended (End txn) = ⊥

-- a batch of such changes, read at any place among the records, leaves all pages
abbrev pub OpenBatchLeaves : Type 0
OpenBatchLeaves =
    (images : List PageImage) (records batch others : List Record) (name : PageName)
    → IsPermutation (batch ++ records) others → All (IsOpenChange images (ended records)) batch
    → restarted images others name ≡ restarted images records name

-- a page that isn't there is zeros
abbrev pub AbsentIsZeros : Type 0
AbsentIsZeros =
    (images : List PageImage) (records : List Record) (name : PageName) → is_there images records name ≡ false
    → restarted images records name ≡ zeros
