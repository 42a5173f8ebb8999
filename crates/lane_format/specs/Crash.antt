-- What a crash leaves of a lane file.
use Rattle.std.specs.Prelude.{◌⊎◌, ℕ, List, [], ◌∷◌, ◌++◌}
use Rattle.disk_core.specs.declared.disk.Disk.{Ghosts}
use Rattle.disk_core.specs.Crash.{Tears}
use Rattle.lane_format.specs.Lane.{IsLane, IsNotOpen}

-- an open lane with these batches, or with this one behind them
abbrev pub WithOrWithout : ℕ → ℕ → List (List ℕ) → List ℕ → List ℕ → Type 0
WithOrWithout generation lane bodies body bytes =
    IsLane generation lane bodies bytes ⊎ IsLane generation lane (bodies ++ body ∷ []) bytes

-- a file that isn't open, or an open lane of this generation with no batch
abbrev pub NotOpenOrEmpty : ℕ → ℕ → List ℕ → Type 0
NotOpenOrEmpty generation lane bytes = IsNotOpen bytes ⊎ IsLane generation lane [] bytes

-- what a crash might have left of the disk, or a file that isn't open
abbrev pub OldOrNotOpen : {D : Type 0} → Ghosts D → D → List ℕ → Type 0
OldOrNotOpen d disk bytes = d.may_leave disk bytes ⊎ IsNotOpen bytes

-- what a crash leaves of a write to a disk of which it might have left these images
abbrev pub TornFrom : (List ℕ → Type 0) → ℕ → List ℕ → List ℕ → Type 0
TornFrom may_leave at written image = (before : List ℕ) × may_leave before × Tears at written before image
