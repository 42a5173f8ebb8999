-- Changes of content that may be untold, one after the other.
use Rattle.std.proofs.Common.{◌≡◌, ℕ, List, Option, Some, None, Result, Ok, Err, OnOk, OnErr, refl, sym, ◌∙◌, subst}
use Rattle.std.specs.Option.{option_map, ForSome}
use Rattle.disk_core.specs.Device.{Writes, written}

-- what holds anyway holds at Ok
pub at_ok : {T E P : Type 0} (r : Result T E) → P → OnOk r P
at_ok (Ok x) p = p
at_ok (Err e) p = tt

-- what follows from the steps that a call has done, and is reported as an error where they failed
pub at_done : {A B C E P Q R : Type 0} (S : Type 0) (fault : E) (done : Result A B) (result : Result C E) → OnOk done P → OnOk done Q → OnErr done ((result ≡ Err fault) × S) → (P → Q → R) → OnOk result R
at_done S fault (Ok x) result p q failed follows = at_ok result (follows p q)
at_done S fault (Err e) result p q failed follows = rw failed.0 tt

-- what a change makes true of told content
pub told_after : {A : Type 0} (f : A → A) (o changed : Option A) (P Q : A → Type 0) → changed ≡ option_map f o → ForSome o P → ((x : A) → P x → Q (f x)) → ForSome changed Q
told_after f None changed P Q is told follows = λ y e. absurd (let none : None ≡ Some y = sym is ∙ e in cc)
told_after f (Some x) changed P Q is told follows = λ y e. subst Q (let same : Some (f x) ≡ Some y = sym is ∙ e in cc) (follows x (told x refl))

-- what a write that succeeded did
pub written_ok : {T E : Type 0} (old : Option (List ℕ)) (at : ℕ) (bytes : List ℕ) (r : Result T E) (new : Option (List ℕ)) → Writes old at bytes r new → OnOk r (new ≡ option_map (written at bytes) old)
written_ok old at bytes (Ok x) new is = is
written_ok old at bytes (Err e) new is = tt
