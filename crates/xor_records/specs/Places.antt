-- Where the fields of a record stand in its bytes.
use Rattle.std.specs.Prelude.{ℕ, List}
use Rattle.std.specs.Int.{w16, w32, w64, from_le_bytes}
use Rattle.fields.specs.Fields.{bytes_at}

-- the transaction, at place 1, behind the kind
unfoldable pub txn_at : List ℕ → ℕ
txn_at bytes = from_le_bytes w64 (bytes_at 1 8 bytes)

-- the table of a change, at place 9
unfoldable pub table_at : List ℕ → ℕ
table_at bytes = from_le_bytes w16 (bytes_at 9 2 bytes)

-- the page of a change, at place 11
unfoldable pub page_at : List ℕ → ℕ
page_at bytes = from_le_bytes w32 (bytes_at 11 4 bytes)

-- the stamp of a change, at place 15
unfoldable pub stamp_at : List ℕ → ℕ
stamp_at bytes = from_le_bytes w64 (bytes_at 15 8 bytes)

-- the offset of a change, at place 23
unfoldable pub offset_at : List ℕ → ℕ
offset_at bytes = from_le_bytes w16 (bytes_at 23 2 bytes)

-- how many XOR bytes a change has, at place 25
unfoldable pub length_at : List ℕ → ℕ
length_at bytes = from_le_bytes w16 (bytes_at 25 2 bytes)

-- the XOR bytes of a change, at place 27
abbrev pub xor_at : List ℕ → List ℕ
xor_at bytes = bytes_at 27 (length_at bytes) bytes
