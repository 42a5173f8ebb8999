-- The transactions of the sessions.
use Rattle.std.specs.Prelude.{ℕ, ◌+◌, List, [], ◌++◌, Option, None, Some, length, drop, slice_index_or}
use Rattle.txn_table.specs.declared.buffer.Txn.{Txn}

-- A session's transaction, if it has one; how many bytes of forward records it may make, and has made; all
-- records, and how many bytes of them were taken.
pub record Row : Type 0 where
  pub txn : Option Txn
  pub limit : ℕ
  pub spent : ℕ
  pub taken : ℕ
  pub records : List ℕ

-- no transaction, and no records
abbrev pub no_records : ℕ → Row
no_records limit = record { txn = None; limit = limit; spent = 0; taken = 0; records = [] }

-- the records that wait to be taken
abbrev pub waiting : Row → List ℕ
waiting row = drop row.taken row.records

-- a transaction begins
abbrev pub begun : Txn → Row → Row
begun txn row = record { txn = Some txn; limit = row.limit; spent = 0; taken = 0; records = [] }

-- a record comes behind the others
abbrev pub pushed : List ℕ → Row → Row
pushed bytes row = record row { records = row.records ++ bytes }

-- a record that counts comes behind the others
abbrev pub pushed_forward : List ℕ → Row → Row
pushed_forward bytes row = record row { spent = row.spent + length bytes; records = row.records ++ bytes }

-- all records were taken
abbrev pub taken_all : Row → Row
taken_all row = record row { taken = length row.records }

-- the transaction is over; its records stay until the next begins
abbrev pub ended : Row → Row
ended row = record row { txn = None }

-- the row of a session
abbrev pub row_of : List Row → ℕ → Row
row_of rows s = slice_index_or rows s (no_records 0)
