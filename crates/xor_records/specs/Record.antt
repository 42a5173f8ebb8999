-- Records of changes, and how each is spelled.
use Rattle.std.specs.Prelude.{◌≢◌, ℕ, ◌+◌, ◌-◌, ◌^◌, ◌<◌, ◌≤◌, List, ◌∷◌, ◌++◌, All, length}
use Rattle.std.specs.Prelude.{slice_index}
use Rattle.std.specs.Int.{w16, w32, w64, to_le_bytes}
use Rattle.xor_records.specs.declared.record.Head.{Head}

-- a change of a page: its head, and the XOR bytes from the
-- offset on; that a transaction committed; that one ended
pub data Record : Type 0 where
  Diff : Head → List ℕ → Record
  Commit : ℕ → Record
  End : ℕ → Record

-- each field of a head, the lowest byte first
abbrev pub head_text : Head → List ℕ
head_text head =
    to_le_bytes w64 head.txn ++ to_le_bytes w16 head.table ++ to_le_bytes w32 head.page
    ++ to_le_bytes w64 head.stamp ++ to_le_bytes w16 head.offset

-- how a record is spelled
unfoldable pub record_text : Record → List ℕ
record_text (Diff head xor) = 1 ∷ head_text head ++ to_le_bytes w16 (length xor) ++ xor
record_text (Commit txn) = 2 ∷ to_le_bytes w64 txn
record_text (End txn) = 3 ∷ to_le_bytes w64 txn

-- the number of a transaction
abbrev pub IsTxn : ℕ → Type 0
IsTxn txn = (1 ≤ txn) × (txn < 2 ^ 64)

-- the numbers of a head fit their fields, and transaction and stamp are at least 1
pub record IsHead (head : Head) : Type 0 where
  pub txn : IsTxn head.txn
  pub table : head.table < 2 ^ 16
  pub page : head.page < 2 ^ 32
  pub stamp : (1 ≤ head.stamp) × (head.stamp < 2 ^ 64)
  pub offset : head.offset < 2 ^ 16

-- 1 to 4,096 bytes from the offset on lie within a page, and the first and the last of them change something
pub record IsXor (offset : ℕ) (xor : List ℕ) : Type 0 where
  pub bytes : All (λ x. x < 2 ^ 8) xor
  pub some : 1 ≤ length xor
  pub inside : offset + length xor ≤ 4096
  pub first : slice_index xor 0 ≢ 0
  pub last : slice_index xor (length xor - 1) ≢ 0

-- what a record is
abbrev pub IsRecord : Record → Type 0
IsRecord (Diff head xor) = IsHead head × IsXor head.offset xor
IsRecord (Commit txn) = IsTxn txn
IsRecord (End txn) = IsTxn txn
