-- What the text of a reply tells.
use Rattle.std.specs.Prelude.{ℤ, pos, negsuc, ◌<◌, ◌^◌}
use Rattle.std.specs.List.{AllByRecursion}
use Rattle.row_types.specs.declared.row.Value.{Value}
use Rattle.row_types.specs.declared.row.Value.TheVariants as values
use Rattle.plain_model.specs.declared.reply.Reply.{Reply}
use Rattle.plain_model.specs.declared.reply.Reply.TheVariants.{Done, Many, Rows, Opened, Refused}
use Rattle.reply_text.specs.Text.{refusal_numbers}

-- a number of 64 bits, with a sign or without
abbrev pub IsNumber : ℤ → Type 0
IsNumber (pos n) = n < 2 ^ 64
IsNumber (negsuc n) = n < 2 ^ 63

-- a text, or such a number
abbrev pub HasNumber : Value → Type 0
HasNumber (values.Int n) = IsNumber n
HasNumber (values.Text text) = Unit {0}

-- each number in the reply has 64 bits, as those of the program have
abbrev pub HasNumbers : Reply → Type 0
HasNumbers Done = Unit {0}
HasNumbers (Many n) = n < 2 ^ 64
HasNumbers (Opened generation) = generation < 2 ^ 64
HasNumbers (Rows rows) = AllByRecursion (λ row. AllByRecursion HasNumber row) rows
HasNumbers (Refused refusal) = AllByRecursion IsNumber (refusal_numbers refusal)

-- the reply as far as its text tells: not whether a number is one of rows or that of a generation
abbrev pub told : Reply → Reply
told (Opened generation) = Many generation
told reply = reply
