-- A fault that is handed on.
use Rattle.std.proofs.Common.{◌≡◌, ℕ, Result, Err, sym, subst}
use Rattle.sql_parse.specs.declared.fault.ParseFault.{ParseFault}
use Rattle.sql_parse.specs.declared.fault.ParseFault.TheVariants.{Syntax, OutOfMemory}
use Rattle.sql_parse.specs.Parsed.{FailsAs, ParsesAs}

-- where the one reading's fault is the other's, so is a fault that is handed on
pub handed_on : {X Y : Type 0} (fault : ParseFault) (one : Result X ℕ) (other : Result Y ℕ) → ((at : ℕ) → one ≡ Err at → other ≡ Err at) → FailsAs fault one → FailsAs fault other
handed_on (Syntax at) one other on fails = on at fails
handed_on OutOfMemory one other on fails = tt

pub gives_fault : {X Y : Type 0} (view : X → Y) (r : Result X ParseFault) (fault : ParseFault) (read : Result Y ℕ) → r ≡ Err fault → FailsAs fault read → ParsesAs view r read
gives_fault view r fault read e fails = subst (λ s. ParsesAs view s read) (sym e) fails
