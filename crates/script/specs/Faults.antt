-- The faults of split.
use Rattle.std.specs.Prelude.{ℕ}
use Rattle.script.specs.declared.fault.ScriptFault.{ScriptFault}
use Rattle.script.specs.declared.fault.ScriptFault.TheVariants.{BadScript, OutOfMemory}

-- a fact of the place, where the fault is one of the text
abbrev pub IfBad : ScriptFault → (ℕ → Type 0) → Type 0
IfBad (BadScript at) P = P at
IfBad OutOfMemory P = Unit {0}
