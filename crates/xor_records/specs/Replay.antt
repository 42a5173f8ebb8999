-- The pages that images and a bag of records stand for.
use Rattle.std.specs.Prelude.{ℕ, Bool, true, false, cond, not, List, [], ◌∷◌, ◌&&◌, ◌||◌, ◌==◌, nat_le}
use Rattle.std.specs.Prelude.{replicate, IsTrue}
use Rattle.std.specs.List.{list_any}
use Rattle.fields.specs.Toggle.{byte_from}
use Rattle.xor_records.specs.declared.record.Head.{Head}
use Rattle.xor_records.specs.Record.{Record, Diff, Commit, End}
use Rattle.xor_records.specs.Parity.{flipped}

-- a page's name: its table, and its number in the table
pub record PageName : Type 0 where
  pub table : ℕ
  pub page : ℕ

-- a page as it stood when it had this stamp: it has all the
-- page's changes with stamps up to it, and no others
pub record PageImage : Type 0 where
  pub table : ℕ
  pub page : ℕ
  pub stamp : ℕ
  pub bytes : List ℕ

-- the head is of a change of this page
abbrev pub is_of : PageName → Head → Bool
is_of name head = (head.table == name.table) && (head.page == name.page)

-- the image is of this page
abbrev pub shows : PageName → PageImage → Bool
shows name image = (image.table == name.table) && (image.page == name.page)

-- the record says that the transaction committed or ended
abbrev pub ends : ℕ → Record → Bool
ends txn (Diff head xor) = false
ends txn (Commit other) = other == txn
ends txn (End other) = other == txn

-- the transaction has ended: it has a commit or an end record among these
abbrev pub ended : List Record → ℕ → Bool
ended records txn = list_any (ends txn) records

-- the stamp of the page's image, 0 where it has none
abbrev pub stamp_of : List PageImage → PageName → ℕ
stamp_of [] name = 0
stamp_of (image ∷ images) name = cond (shows name image) image.stamp (stamp_of images name)

-- a page of zeros
unfoldable pub zeros : List ℕ
zeros = replicate 4096 0

-- the bytes of the page's image, zeros where it has none
abbrev pub bytes_of : List PageImage → PageName → List ℕ
bytes_of [] name = zeros
bytes_of (image ∷ images) name = cond (shows name image) image.bytes (bytes_of images name)

abbrev pub only_one : Bool → Bool → Bool
only_one a b = cond a (not b) b

-- whether a change is owed to a page whose image has this stamp: its
-- transaction has ended, or its stamp is at most the image's, and not both
abbrev pub is_owed : (ℕ → Bool) → ℕ → Head → Bool
is_owed has_ended stamp head = only_one (has_ended head.txn) (nat_le head.stamp stamp)

abbrev pub IsOwed : List PageImage → List Record → Head → Type 0
IsOwed images records head =
    IsTrue (is_owed (ended records) (stamp_of images (record { table = head.table; page = head.page })) head)

-- the byte that a record has at a place of this page where it is owed to it; else 0, which has no bit set
abbrev pub owed_byte : (ℕ → Bool) → PageName → ℕ → Record → ℕ → ℕ
owed_byte has_ended name stamp (Diff head xor) i =
    cond (is_of name head && is_owed has_ended stamp head) (byte_from head.offset xor i) 0
owed_byte has_ended name stamp (Commit txn) i = 0
owed_byte has_ended name stamp (End txn) i = 0

-- The bytes of a page: a bit is the image's where an even number of the
-- page's owed records has it set, and the opposite where an odd number has.
unfoldable pub restarted : List PageImage → List Record → PageName → List ℕ
restarted images records name =
    flipped (owed_byte (ended records) name (stamp_of images name)) (bytes_of images name) records

-- the record is a change of this page
abbrev pub changes : PageName → Record → Bool
changes name (Diff head xor) = is_of name head
changes name (Commit txn) = false
changes name (End txn) = false

-- the page is there: it has an image or a change
abbrev pub is_there : List PageImage → List Record → PageName → Bool
is_there images records name = list_any (shows name) images || list_any (changes name) records
