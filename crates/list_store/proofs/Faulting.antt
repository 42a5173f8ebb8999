-- A lane that hasn't failed reports a fault only where its disk's count rose by one.
use Rattle.std.specs.Prelude.{◌↔◌}
use Rattle.std.proofs.lemmas.Bool.{cases_lt}
use Rattle.std.proofs.Common.{Bool, true, false, IsTrue, inl, inr, ◌<◌, ◌≤◌, ◌≡◌, ◌≢◌, ℕ, Result, Ok, Err, IfOk, IfErr, IsErrAnd, refl, ◌∙◌, sym, ap, subst}
use Rattle.disk_core.specs.declared.disk.Disk.{Ghosts}
use Rattle.disk_core.specs.declared.store.FileName.{FileName}
use Rattle.lane_format.specs.Writer.{KeepsFault, stage_of}
use Rattle.lane_format.specs.declared.segment.LaneReadFault.{LaneReadFault}
use Rattle.lane_format.specs.declared.segment.LaneReadFault.TheVariants as reads
use Rattle.lane_format.specs.declared.writer.LaneFault.{LaneFault}
use Rattle.lane_format.specs.declared.writer.LaneFault.TheVariants as fault
use Rattle.lane_format.specs.declared.writer.LaneWriter.{LaneWriter}
use Rattle.lane_format.specs.declared.writer.Stage.TheVariants.{Failed}
use Rattle.list_store.specs.Faults.{NamesItsFile, opening_fault}
use Rattle.list_store.specs.declared.fault.OpenFault.{OpenFault}
use Rattle.list_store.specs.declared.fault.OpenFault.TheVariants.{Damaged, Disk}
use Rattle.lane_format.specs.Writer.{even_file}

pub live_has_cause : {D T : Type 0} (d : Ghosts D) (old new : LaneWriter D) (r : Result T LaneFault)
    → ((file : FileName) → stage_of old ≢ Failed file) → KeepsFault d old new r → IfErr r (NamesItsFile d old new)
live_has_cause d old new (Ok x) live keeps = tt
live_has_cause d old new (Err (fault.Disk file)) live keeps = let is = keeps.disk file refl in (ap Disk is.0, is.1)
live_has_cause d old new (Err (fault.Closed file)) live keeps = absurd (live file ((keeps.closed file).0 refl))

-- what holds of the error holds where the result is one
pub at_this_err : {T E : Type 0} (P : E → Type 0) (r : Result T E) (e : E) → IfErr r P → r ≡ Err e → P e
at_this_err P (Ok x) e p is = absurd (cc)
at_this_err P (Err y) e p is = let same : y ≡ e = cc in subst P same p

pub map_err : {T E : Type 0} (P Q : E → Type 0) (r : Result T E) → ((e : E) → P e → Q e) → IfErr r P → IfErr r Q
map_err P Q (Ok x) f p = tt
map_err P Q (Err y) f p = f y p

pub at_this : {T E : Type 0} (P : E → Type 0) (r : Result T E) (e : E) → IsErrAnd r (λ x. x ≡ e) → P e → IfErr r P
at_this P (Ok x) e is p = tt
at_this P (Err x) e is p = subst P (sym is) p

-- what follows at Ok from two facts, and at Err
pub both_ok : {T E : Type 0} (P Q R : T → Type 0) (r : Result T E) → ((x : T) → P x → Q x → R x) → IfOk r P → IfOk r Q → IfOk r R
both_ok P Q R (Ok x) f p q = f x p q
both_ok P Q R (Err e) f p q = tt

pub both_err : {T E : Type 0} (P Q R : E → Type 0) (r : Result T E) → ((e : E) → P e → Q e → R e) → IfErr r P → IfErr r Q → IfErr r R
both_err P Q R (Ok x) f p q = tt
both_err P Q R (Err e) f p q = f e p q

-- which damage is reported
pub damaged_as : {T : Type 0} (f : OpenFault) (file : FileName) (at place : ℕ) → f ≡ Damaged (even_file 0) place → ◌≡◌ {A = Result T OpenFault} (Err f) (Err (Damaged file at)) → (file ≡ even_file 0) × (at ≡ place)
damaged_as f file at place is e =
    let same : Damaged file at ≡ Damaged (even_file 0) place = let inside : f ≡ Damaged file at = cc in sym inside ∙ is in
    let file_is : file ≡ even_file 0 = cc in
    let place_is : at ≡ place = cc in
    (file_is, place_is)

-- damage of the lane is reported as it was found
pub lane_damage : (f : LaneReadFault) (file : FileName) (at : ℕ) → opening_fault f ≡ Damaged file at → f ≡ reads.Damaged file at
lane_damage (reads.Damaged other place) file at e =
    let file_is : other ≡ file = cc in
    let place_is : place ≡ at = cc in
    ap (λ (x : FileName). reads.Damaged x place) file_is ∙ ap (reads.Damaged file) place_is
lane_damage (reads.Disk other) file at e = absurd cc
lane_damage reads.OutOfMemory file at e = absurd cc

-- there is no byte at a place
pub no_byte : (there : Bool) (place n : ℕ) → (IsTrue there ↔ (place < n)) → there ≡ false → n ≤ place
no_byte there place n tells is = elim (cases_lt place n) [
  | inl inside ↦ let never : true ≡ false = sym (tells.1 inside) ∙ is in absurd cc
  | inr past ↦ past
]
