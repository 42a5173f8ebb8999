-- What a reader of the program gives is what a reading gives, unless memory ran out.
use Rattle.std.specs.Prelude.{◌≡◌, ℕ, Result, Ok, Err}
use Rattle.sql_parse.specs.declared.fault.ParseFault.{ParseFault}
use Rattle.sql_parse.specs.declared.fault.ParseFault.TheVariants.{Syntax, OutOfMemory}

-- the fault is the reading's
abbrev pub FailsAs : {Y : Type 0} → ParseFault → Result Y ℕ → Type 0
FailsAs (Syntax at) read = read ≡ Err at
FailsAs OutOfMemory read = Unit {0}

-- what was returned, seen by view, is what the reading gives, unless memory ran out
abbrev pub ParsesAs : {X Y : Type 0} → (X → Y) → Result X ParseFault → Result Y ℕ → Type 0
ParsesAs view (Ok x) read = read ≡ Ok (view x)
ParsesAs view (Err fault) read = FailsAs fault read
