-- The place of the first rule that the front of some bytes breaks, where it is no record.
use Rattle.std.specs.Prelude.{ℕ, ◌+◌, ◌-◌, Bool, ◌||◌, if◌then◌else◌, ◌==◌, nat_lt, List, [], ◌∷◌, length}
use Rattle.std.specs.Prelude.{slice_index, Option, None, Some}
use Rattle.std.specs.Option.{option_or}
use Rattle.xor_records.specs.Places.{txn_at, stamp_at, offset_at, length_at, xor_at}

-- a field that ends at this place is cut off: the input's length
abbrev pub ends_before : ℕ → List ℕ → Option ℕ
ends_before end bytes = if nat_lt (length bytes) end then Some (length bytes) else None

-- a field at this place breaks its rule
abbrev pub breaks_at : ℕ → Bool → Option ℕ
breaks_at at broken = if broken then Some at else None

-- the transaction is at least 1
abbrev pub txn_fault : List ℕ → Option ℕ
txn_fault bytes = option_or (ends_before 9 bytes) (breaks_at 1 (txn_at bytes == 0))

-- table and page have no rule; the stamp is at least 1
abbrev pub stamp_fault : List ℕ → Option ℕ
stamp_fault bytes = option_or (ends_before 23 bytes) (breaks_at 15 (stamp_at bytes == 0))

-- the offset has no rule; the length is at least 1, and with the offset at most 4,096
abbrev pub length_fault : List ℕ → Option ℕ
length_fault bytes =
    option_or (ends_before 27 bytes)
    (breaks_at 25 (length_at bytes == 0 || nat_lt 4096 (offset_at bytes + length_at bytes)))

-- the first of these bytes is 0, or the last
abbrev pub begins_or_ends_with_zero : List ℕ → Bool
begins_or_ends_with_zero xor = slice_index xor 0 == 0 || slice_index xor (length xor - 1) == 0

-- neither the first nor the last of the XOR bytes is 0
abbrev pub xor_fault : List ℕ → Option ℕ
xor_fault bytes =
    option_or (ends_before (27 + length_at bytes) bytes)
    (breaks_at 27 (begins_or_ends_with_zero (xor_at bytes)))

-- the first of these of a change
abbrev pub diff_fault : List ℕ → Option ℕ
diff_fault bytes =
    option_or (txn_fault bytes)
    (option_or (stamp_fault bytes) (option_or (length_fault bytes) (xor_fault bytes)))

-- what stands behind the kind, which is 1, 2 or 3
abbrev pub fault_of_kind : ℕ → List ℕ → Option ℕ
fault_of_kind kind bytes =
    if kind == 1 then diff_fault bytes else (if kind == 2 || kind == 3 then txn_fault bytes else Some 0)

-- The first field, from the left, that breaks a rule or is cut off:
-- for the former its place, for the latter the input's length.
unfoldable pub record_fault : List ℕ → Option ℕ
record_fault bytes = option_or (ends_before 1 bytes) (fault_of_kind (slice_index bytes 0) bytes)
