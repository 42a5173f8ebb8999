-- Changes of content that may be untold, one after the other.
use Rattle.std.proofs.Common.{◌≡◌, Option, Some, None, Result, Ok, Err, OnOk, OnErr, refl, sym, ◌∙◌, ap, subst}
use Rattle.std.specs.Option.{option_map, ForSome}

pub changed_twice : {A : Type 0} (f g h : A → A) (o : Option A) (P : A → Type 0) → ForSome o P → ((x : A) → P x → g (f x) ≡ h x) → option_map g (option_map f o) ≡ option_map h o
changed_twice f g h None P told same = refl
changed_twice f g h (Some x) P told same = ap Some (same x (told x refl))

-- what holds anyway holds at Ok
pub at_ok : {T E P : Type 0} (r : Result T E) → P → OnOk r P
at_ok (Ok x) p = p
at_ok (Err e) p = tt

-- what follows from the steps that a call has done, and is reported as an error where they failed
pub at_done : {A B C E P Q R : Type 0} (S : Type 0) (fault : E) (done : Result A B) (result : Result C E) → OnOk done P → OnOk done Q → OnErr done ((result ≡ Err fault) × S) → (P → Q → R) → OnOk result R
at_done S fault (Ok x) result p q failed follows = at_ok result (follows p q)
at_done S fault (Err e) result p q failed follows = rw failed.0 tt

-- what a change makes true of told content
pub told_after : {A : Type 0} (f : A → A) (o changed : Option A) (P Q : A → Type 0) → changed ≡ option_map f o → ForSome o P → ((x : A) → P x → Q (f x)) → ForSome changed Q
told_after f None changed P Q is told follows = λ y e. absurd (let none : None ≡ Some y = sym is ∙ e in cc)
told_after f (Some x) changed P Q is told follows = λ y e. subst Q (let same : Some (f x) ≡ Some y = sym is ∙ e in cc) (follows x (told x refl))
