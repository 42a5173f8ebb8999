-- What the front of some bytes is read as, with the bytes behind it.
use Rattle.std.specs.Prelude.{◌≡◌, ℕ, zero, suc, Bool, ◌&&◌, if◌then◌else◌, ◌==◌, nat_lt, nat_le, is_none}
use Rattle.std.specs.Prelude.{List, [], ◌∷◌, ◌++◌, length, take, drop, Option, None, Some, Result, Ok, Err}
use Rattle.std.specs.Str.{is_utf8}
use Rattle.std.specs.Int.{w16, from_le_bytes}
use Rattle.row_types.specs.declared.definition.Kind.{Kind}
use Rattle.row_types.specs.declared.definition.Kind.TheVariants as kind
use Rattle.row_types.specs.declared.definition.Column.{Column}
use Rattle.row_types.specs.declared.definition.TableDef.{TableDef}
use Rattle.row_types.specs.declared.schema_text.ReadError.{ReadError}
use Rattle.row_types.specs.declared.schema_text.ReadError.TheVariants as errors
use Rattle.row_types.specs.Schema.{refusal}

-- reading continues with what was read, or nothing was read
infixl 10 ◌>>=◌
abbrev pub ◌>>=◌ : {A B : Type 0} → Option A → (A → Option B) → Option B
None >>= f = None
(Some x) >>= f = f x

-- the failure of a reading: memory ran out, or nothing is read
abbrev pub FailsToRead : {Y : Type 0} → ReadError → Option Y → Type 0
FailsToRead errors.OutOfMemory read = Unit {0}
FailsToRead errors.Invalid read = read ≡ None

-- what a function returned, seen by view, is what reading gives, unless memory ran out
abbrev pub ReadsAs : {X Y : Type 0} → (X → Y) → Result X ReadError → Option Y → Type 0
ReadsAs view (Ok x) read = read ≡ Some (view x)
ReadsAs view (Err e) read = FailsToRead e read

-- a byte
abbrev pub byte_at : List ℕ → Option (ℕ × List ℕ)
byte_at [] = None
byte_at (b ∷ bytes) = Some (b, bytes)

-- 1 to 32 bytes of UTF-8
abbrev pub is_name : List ℕ → Bool
is_name bytes = is_utf8 bytes && (nat_le 1 (length bytes) && nat_le (length bytes) 32)

-- a name: a byte with its length, and so many bytes that are a name
unfoldable pub name_at : List ℕ → Option (List ℕ × List ℕ)
name_at bytes = do
  n ← byte_at bytes
  if nat_lt (length n.1) n.0 then None
      else (if is_name (take n.0 n.1) then Some (take n.0 n.1, drop n.0 n.1) else None)

-- the limit of a text, in two bytes
abbrev pub limit_at : List ℕ → Option (Kind × List ℕ)
limit_at bytes =
    if nat_lt (length bytes) 2 then None
    else Some (kind.Text (from_le_bytes w16 (take 2 bytes)), drop 2 bytes)

-- a kind: 1 for whole numbers; 2 and the limit for texts
unfoldable pub kind_at : List ℕ → Option (Kind × List ℕ)
kind_at bytes = do
  b ← byte_at bytes
  if b.0 == 1 then Some (kind.Int, b.1) else (if b.0 == 2 then limit_at b.1 else None)

-- a column: its name and its kind
unfoldable pub column_at : List ℕ → Option (Column × List ℕ)
column_at bytes = do
  name ← name_at bytes
  kind ← kind_at name.1
  Some (record { name = name.0; kind = kind.0 }, kind.1)

-- so many columns
unfoldable pub columns_from : ℕ → List ℕ → Option (List Column × List ℕ)
columns_from zero bytes = Some ([], bytes)
columns_from (suc n) bytes = do
  first ← column_at bytes
  others ← columns_from n first.1
  Some (first.0 ∷ others.0, others.1)

-- a definition: the name, how many columns, the number of the key column, and the columns
unfoldable pub table_at : List ℕ → Option (TableDef × List ℕ)
table_at bytes = do
  name ← name_at bytes
  count ← byte_at name.1
  key ← byte_at count.1
  columns ← columns_from count.0 key.1
  Some (record { name = name.0; columns = columns.0; keys = key.0 ∷ [] }, columns.1)

-- as many tables, each of which is accepted by those before it
unfoldable pub tables_from : ℕ → List TableDef → List ℕ → Option (List TableDef × List ℕ)
tables_from zero tables bytes = Some (tables, bytes)
tables_from (suc n) tables bytes = do
  next ← table_at bytes
  if is_none (refusal tables next.0) then tables_from n (tables ++ next.0 ∷ []) next.1 else None

-- all of the bytes
unfoldable pub schema_at : List ℕ → Option (List TableDef)
schema_at bytes = do
  count ← byte_at bytes
  tables ← tables_from count.0 [] count.1
  if length tables.1 == 0 then Some tables.0 else None
