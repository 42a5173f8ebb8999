-- The text of every line that is printed: replies, headers and last lines.
use Rattle.std.specs.Prelude.{ℕ, ℤ, pos, true, false, List, [], ◌∷◌, ◌++◌, length, codes, Option, None, Some}
use Rattle.std.specs.Fmt.{decimal, signed_decimal}
use Rattle.std.specs.List.{flat_map}
use Rattle.sql_lex.specs.Spelling.{doubled}
use Rattle.disk_core.specs.declared.store.FileName.{FileName}
use Rattle.disk_core.specs.declared.store.FileName.TheVariants.{AreaA, AreaB, Lane}
use Rattle.row_types.specs.declared.row.Value.{Value}
use Rattle.row_types.specs.declared.row.Value.TheVariants as values
use Rattle.plain_model.specs.declared.reply.Reply.{Reply}
use Rattle.plain_model.specs.declared.reply.Reply.TheVariants.{Done, Many, Rows, Opened, Refused}
use Rattle.plain_model.specs.declared.reply.Refusal.{Refusal}
use Rattle.plain_model.specs.declared.reply.Refusal.TheVariants as refusals
use Rattle.plain_model.specs.declared.stop.Resource.{Resource as Need}
use Rattle.plain_model.specs.declared.stop.Resource.TheVariants as resources
use Rattle.reply_text.specs.declared.last.Place.{Place}
use Rattle.reply_text.specs.declared.last.Place.TheVariants as places
use Rattle.reply_text.specs.declared.last.Fault.{Fault}
use Rattle.reply_text.specs.declared.last.Fault.TheVariants as faults

-- a value: a number in decimal, or a text between quotes, each quote in it twice
abbrev pub value_text : Value → List ℕ
value_text (values.Int n) = signed_decimal n
value_text (values.Text text) = codes "'" ++ (doubled text ++ codes "'")

-- values behind the first of a row
abbrev pub more_text : Value → List ℕ
more_text value = codes ", " ++ value_text value

-- the line of a row
abbrev pub row_text : List Value → List ℕ
row_text [] = codes "\n"
row_text (value ∷ values) = value_text value ++ (flat_map more_text values ++ codes "\n")

-- numbers, each behind a space
abbrev pub numbers_text : List ℤ → List ℕ
numbers_text numbers = flat_map (λ n. codes " " ++ signed_decimal n) numbers

-- the word for what is used up
abbrev pub resource_word : Need → List ℕ
resource_word (resources.Pages used limit) = codes "PAGES FULL"
resource_word (resources.Nodes used limit) = codes "NODES FULL"
resource_word (resources.Txn used limit) = codes "TXN FULL"
resource_word (resources.Locks held limit) = codes "LOCKS FULL"
resource_word (resources.LogFull bytes limit) = codes "LOG FULL"
resource_word (resources.Busy oldest) = codes "BUSY"

-- and its numbers
abbrev pub resource_numbers : Need → List ℤ
resource_numbers (resources.Pages used limit) = pos used ∷ pos limit ∷ []
resource_numbers (resources.Nodes used limit) = pos used ∷ pos limit ∷ []
resource_numbers (resources.Txn used limit) = pos used ∷ pos limit ∷ []
resource_numbers (resources.Locks held limit) = pos held ∷ pos limit ∷ []
resource_numbers (resources.LogFull bytes limit) = pos bytes ∷ pos limit ∷ []
resource_numbers (resources.Busy oldest) = pos oldest ∷ []

-- the word for a refusal
abbrev pub refusal_word : Refusal → List ℕ
refusal_word (refusals.Syntax at) = codes "SYNTAX"
refusal_word refusals.InBlock = codes "IN BLOCK"
refusal_word refusals.NoBlock = codes "NO BLOCK"
refusal_word refusals.OnlyFirst = codes "ONLY FIRST"
refusal_word refusals.NoTable = codes "NO TABLE"
refusal_word refusals.NoColumn = codes "NO COLUMN"
refusal_word refusals.Kind = codes "KIND"
refusal_word refusals.Order = codes "ORDER"
refusal_word refusals.KeyFixed = codes "KEY FIXED"
refusal_word refusals.Twice = codes "TWICE"
refusal_word (refusals.Count given wanted) = codes "COUNT"
refusal_word (refusals.Length given limit) = codes "LENGTH"
refusal_word (refusals.Duplicate key) = codes "DUPLICATE"
refusal_word refusals.Range = codes "RANGE"
refusal_word refusals.TableExists = codes "TABLE EXISTS"
refusal_word (refusals.Tables limit) = codes "TABLES"
refusal_word (refusals.Columns count) = codes "COLUMNS"
refusal_word (refusals.SameName place) = codes "SAME NAME"
refusal_word refusals.NoKey = codes "NO KEY"
refusal_word (refusals.TooWide bytes) = codes "TOO WIDE"
refusal_word (refusals.Resource resource) = resource_word resource
refusal_word (refusals.Spent limit) = codes "SPENT"

-- and its numbers
abbrev pub refusal_numbers : Refusal → List ℤ
refusal_numbers (refusals.Syntax at) = pos at ∷ []
refusal_numbers (refusals.Count given wanted) = pos given ∷ pos wanted ∷ []
refusal_numbers (refusals.Length given limit) = pos given ∷ pos limit ∷ []
refusal_numbers (refusals.Duplicate key) = key
refusal_numbers (refusals.Tables limit) = pos limit ∷ []
refusal_numbers (refusals.Columns count) = pos count ∷ []
refusal_numbers (refusals.SameName place) = pos place ∷ []
refusal_numbers (refusals.TooWide bytes) = pos bytes ∷ []
refusal_numbers (refusals.Resource resource) = resource_numbers resource
refusal_numbers (refusals.Spent limit) = pos limit ∷ []
refusal_numbers _ = []

-- the lines of a reply
abbrev pub reply_text : Reply → List ℕ
reply_text Done = codes "ok\n"
reply_text (Many n) = codes "ok " ++ (decimal n ++ codes "\n")
reply_text (Opened generation) = codes "ok " ++ (decimal generation ++ codes "\n")
reply_text (Rows rows) = flat_map row_text rows ++ (codes "rows " ++ (decimal (length rows) ++ codes "\n"))
reply_text (Refused refusal) =
    codes "refused " ++ (refusal_word refusal ++ (numbers_text (refusal_numbers refusal) ++ codes "\n"))

-- the header of a section: the setup's, or that of the session with this number
abbrev pub header_line : Option ℕ → List ℕ
header_line None = codes "setup\n"
header_line (Some number) = codes "session " ++ (decimal number ++ codes "\n")

-- the line above the rows of a table with this name
abbrev pub table_line : List ℕ → List ℕ
table_line name = codes "table " ++ (name ++ codes "\n")

-- how a file is called
abbrev pub file_text : FileName → List ℕ
file_text AreaA = codes "area.a"
file_text AreaB = codes "area.b"
file_text (Lane lane false) = codes "lane" ++ (decimal lane ++ codes ".even")
file_text (Lane lane true) = codes "lane" ++ (decimal lane ++ codes ".odd")

-- where the files are damaged
abbrev pub place_text : Place → List ℕ
place_text (places.File file at) = file_text file ++ (codes " " ++ decimal at)
place_text (places.Slot table page slot) =
    codes "slot " ++ (decimal table ++ (codes " " ++ (decimal page ++ (codes " " ++ decimal slot))))
place_text (places.SameKey table key) = codes "key " ++ (decimal table ++ (codes " " ++ signed_decimal key))

-- what a last line says behind its first word
abbrev pub fault_text : Fault → List ℕ
fault_text faults.Usage = codes "USAGE"
fault_text faults.OutOfMemory = codes "MEMORY"
fault_text (faults.Disk file) = codes "DISK " ++ file_text file
fault_text faults.Source = codes "SOURCE"
fault_text (faults.Script at) = codes "SCRIPT " ++ decimal at
fault_text (faults.Damaged place) = codes "DAMAGED " ++ place_text place
fault_text faults.NoBase = codes "NO BASE"
fault_text faults.Exists = codes "EXISTS"
fault_text (faults.Lanes given wanted) = codes "LANES " ++ (decimal given ++ (codes " " ++ decimal wanted))

-- the last line of a run that ends with a fault
abbrev pub last_line : Fault → List ℕ
last_line fault = codes "fault " ++ (fault_text fault ++ codes "\n")
