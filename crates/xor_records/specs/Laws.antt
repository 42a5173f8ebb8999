-- What holds of the pages that images and records stand for.
use Rattle.std.specs.Prelude.{ℕ, Bool, true, false, cond, List, ◌∷◌, ◌≡◌, ◌<◌, ◌≤◌, ◌+◌, ◌%◌, ◌^◌, ◌&&◌, ◌==◌}
use Rattle.std.specs.Prelude.{map, length, get_or, count_by, nat_le, nat_lt, replicate, All, IsPermutation}
use Rattle.std.specs.Int.{bit_at}
use Rattle.fields.specs.Toggle.{byte_at, byte_from, toggled}
use Rattle.xor_records.specs.declared.record.Head.{Head}
use Rattle.xor_records.specs.Record.{Record, Diff, Commit, End}
use Rattle.xor_records.specs.Parity.{is_set, joined, flipped}
use Rattle.xor_records.specs.Replay.{PageName, PageImage, ends, ended, stamp_of, bytes_of, is_of, owed_byte}
use Rattle.xor_records.specs.Replay.{restarted}

-- the page that a change is of
abbrev pub page_of : Head → PageName
page_of head = record { table = head.table; page = head.page }

-- the change is above the stamp of its page's image
abbrev pub IsAbove : List PageImage → Head → Type 0
IsAbove images head = stamp_of images (page_of head) < head.stamp

-- the change is at the stamp of its page's image or below it
abbrev pub IsAtMost : List PageImage → Head → Type 0
IsAtMost images head = head.stamp ≤ stamp_of images (page_of head)

-- one record more leaves all pages
abbrev pub Leaves : List PageImage → List Record → Record → Type 0
Leaves images records more =
    (name : PageName) → restarted images (more ∷ records) name ≡ restarted images records name

-- one change more toggles its bits on its page
abbrev pub Toggles : List PageImage → List Record → Head → List ℕ → Type 0
Toggles images records head xor =
    restarted images (Diff head xor ∷ records) (page_of head) ≡ toggled (byte_from head.offset)
    (restarted images records (page_of head)) xor

-- bit b of the byte at place i: the image's, where an even number
-- of the records owed to the page has it set, else the opposite
abbrev pub EachBitHasItsParity : Type 0
EachBitHasItsParity =
    (images : List PageImage) (records : List Record) (name : PageName) (i b : ℕ)
    → i < length (bytes_of images name) → b < 8
    → bit_at (get_or (restarted images records name) i 0) b
    ≡ (bit_at (get_or (bytes_of images name) i 0) b + count_by
    (λ r. is_set (owed_byte (ended records) name (stamp_of images name) r i) b) records) % 2

abbrev pub NoOrder : Type 0
NoOrder =
    (images : List PageImage) (records others : List Record) (name : PageName) → IsPermutation records others
    → restarted images others name ≡ restarted images records name

-- what a part of the records toggles on a page, over zeros
abbrev pub part_of : List PageImage → (ℕ → Bool) → PageName → List Record → List ℕ
part_of images has_ended name part =
    flipped (owed_byte has_ended name (stamp_of images name))
    (replicate (length (bytes_of images name)) 0) part

abbrev pub AnyParts : Type 0
AnyParts =
    (images : List PageImage) (records : List Record) (parts : List (List Record)) (name : PageName)
    → IsPermutation records (joined parts)
    → flipped byte_at (bytes_of images name) (map (part_of images (ended records) name) parts)
    ≡ restarted images records name

abbrev pub EndedToggles : Type 0
EndedToggles =
    (images : List PageImage) (records : List Record) (head : Head) (xor : List ℕ) → All (λ x. x < 2 ^ 8) xor
    → IsAbove images head → ended records head.txn ≡ true → Toggles images records head xor

-- the compensation is of the same transaction, page and place with the same bytes, and has a stamp of its own
abbrev pub Compensated : Type 0
Compensated =
    (images : List PageImage) (records : List Record) (head : Head) (stamp : ℕ) (xor : List ℕ)
    (name : PageName)
    → IsAbove images head → IsAbove images (record head { stamp = stamp }) → ended records head.txn ≡ true
    → restarted images (Diff head xor ∷ Diff (record head { stamp = stamp }) xor ∷ records) name
    ≡ restarted images records name

abbrev pub OpenIsNotThere : Type 0
OpenIsNotThere = (images : List PageImage) (records : List Record) (head : Head) (xor : List ℕ)
    → IsAbove images head → ended records head.txn ≡ false → Leaves images records (Diff head xor)

abbrev pub AtMostTheStamp : Type 0
AtMostTheStamp = (images : List PageImage) (records : List Record) (head : Head) (xor : List ℕ)
    → IsAtMost images head → ended records head.txn ≡ true → Leaves images records (Diff head xor)

abbrev pub OpenIsTakenBack : Type 0
OpenIsTakenBack =
    (images : List PageImage) (records : List Record) (head : Head) (xor : List ℕ) → All (λ x. x < 2 ^ 8) xor
    → IsAtMost images head → ended records head.txn ≡ false → Toggles images records head xor

-- ---- A transaction ends

-- the byte that a change by this transaction has at a place of this page, else 0
abbrev pub byte_by : ℕ → PageName → Record → ℕ → ℕ
byte_by txn name (Diff head xor) i = cond (is_of name head && (txn == head.txn)) (byte_from head.offset xor i) 0
byte_by txn name (Commit other) i = 0
byte_by txn name (End other) i = 0

-- The first record that says that a transaction committed or ended toggles all its
-- changes: those above their page's stamp come, and the others are no longer taken back.
abbrev pub EndToggles : Type 0
EndToggles =
    (images : List PageImage) (records : List Record) (txn : ℕ) (end : Record) (name : PageName)
    → ends txn end ≡ true → ended records txn ≡ false
    → restarted images (end ∷ records) name
    ≡ flipped (byte_by txn name) (restarted images records name) records

abbrev pub AnotherEndLeaves : Type 0
AnotherEndLeaves = (images : List PageImage) (records : List Record) (txn : ℕ) (end : Record)
    → ends txn end ≡ true → ended records txn ≡ true → Leaves images records end

-- ---- An image's stamp rises

-- the byte that a change of this page has at a place, where its stamp is above the first and at most the second
abbrev pub byte_between : ℕ → ℕ → PageName → Record → ℕ → ℕ
byte_between below upto name (Diff head xor) i =
    cond (is_of name head && nat_lt below head.stamp && nat_le head.stamp upto) (byte_from head.offset xor i) 0
byte_between below upto name (Commit txn) i = 0
byte_between below upto name (End txn) i = 0

-- the page has a later image, of which the bytes have the changes up to its stamp too
pub record Rises (images later : List PageImage) (records : List Record) (name : PageName) : Type 0 where
  pub stamp : stamp_of images name ≤ stamp_of later name
  pub bytes : bytes_of later name
      ≡ flipped (byte_between (stamp_of images name) (stamp_of later name) name) (bytes_of images name) records

abbrev pub LaterImageIsSame : Type 0
LaterImageIsSame =
    (images later : List PageImage) (records : List Record) (name : PageName)
    → Rises images later records name → restarted later records name ≡ restarted images records name
