-- The faults of lex.
use Rattle.std.specs.Prelude.{ℕ}
use Rattle.sql_lex.specs.declared.lexing.LexFault.{LexFault}
use Rattle.sql_lex.specs.declared.lexing.LexFault.TheVariants.{Syntax, OutOfMemory}

-- a fact of the place, where the fault is one of the text
abbrev pub IfSyntax : LexFault → (ℕ → Type 0) → Type 0
IfSyntax (Syntax at) P = P at
IfSyntax OutOfMemory P = Unit {0}
