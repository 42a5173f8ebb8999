-- How a reading ends that was stopped by a fault of a step.
use Rattle.std.proofs.Common.{◌≡◌, ℕ, List, sym, ◌∙◌, ap}
use Rattle.std.specs.Prelude.{Option, Some, Result, Ok, Err, IsErrAnd}
use Rattle.area_format.specs.declared.fault.AreaReadFault.{AreaReadFault}
use Rattle.area_format.specs.declared.fault.AreaReadFault.TheVariants.{Disk, Damaged, OutOfMemory}
use Rattle.area_format.specs.Area.{IsOpen}
use Rattle.area_format.specs.Results.{NamesFault, NamesFaultOfOpen}

module _ {T : Type 0} (fault : Option ℕ) (P : T → Type 0) (why : AreaReadFault) where
  pub stopped : (r : Result T AreaReadFault) → IsErrAnd r (λ x. x ≡ why) → ((at : ℕ) → why ≡ Damaged at → fault ≡ Some at) → NamesFault fault P r
  stopped (Ok x) is damaged = absurd is
  stopped (Err (Damaged at)) is damaged = damaged at (sym is)
  stopped (Err Disk) is damaged = tt
  stopped (Err OutOfMemory) is damaged = tt

  pub stopped_open : (bytes : List ℕ) (r : Result (Option T) AreaReadFault) → IsErrAnd r (λ x. x ≡ why) → IsOpen bytes → ((at : ℕ) → why ≡ Damaged at → fault ≡ Some at) → NamesFaultOfOpen bytes fault P r
  stopped_open bytes (Ok x) is open_gate damaged = absurd is
  stopped_open bytes (Err (Damaged at)) is open_gate damaged = (open_gate, damaged at (sym is))
  stopped_open bytes (Err Disk) is open_gate damaged = tt
  stopped_open bytes (Err OutOfMemory) is open_gate damaged = tt

-- a step that was stopped by damage has named it
pub named : (fault : Option ℕ) (why : AreaReadFault) → NamesFault {T = Unit {0}} fault (λ _. Unit {0}) (Err why) → (at : ℕ) → why ≡ Damaged at → fault ≡ Some at
named fault (Damaged at) names other is = let same : at ≡ other = cc in names ∙ ap Some same
named fault Disk names other is = absurd (cc is)
named fault OutOfMemory names other is = absurd (cc is)
