-- What the front of bytes without a fault is read as.
use Rattle.std.specs.Prelude.{ℕ, ◌+◌, if◌then◌else◌, ◌==◌, List, slice_index}
use Rattle.xor_records.specs.declared.record.Head.{Head}
use Rattle.xor_records.specs.Record.{Record, Diff, Commit, End}
use Rattle.xor_records.specs.Places.{txn_at, table_at, page_at, stamp_at, offset_at, length_at, xor_at}

-- the head of a change
abbrev pub head_at : List ℕ → Head
head_at bytes =
    record {
      txn = txn_at bytes;
      table = table_at bytes;
      page = page_at bytes;
      stamp = stamp_at bytes;
      offset = offset_at bytes;
    }

-- the record, by its kind
unfoldable pub record_at : List ℕ → Record
record_at bytes =
    if slice_index bytes 0 == 1 then Diff (head_at bytes) (xor_at bytes)
    else (if slice_index bytes 0 == 2 then Commit (txn_at bytes) else End (txn_at bytes))

-- how many bytes it has
unfoldable pub len_at : List ℕ → ℕ
len_at bytes = if slice_index bytes 0 == 1 then 27 + length_at bytes else 9
