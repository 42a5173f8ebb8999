-- What an answer of a call says.
use Rattle.std.proofs.Common.{◌≡◌, ℕ, Result, Ok, Err, IfErr, IsErrAnd, refl, sym, subst}
use Rattle.script.specs.declared.fault.ScriptFault.{ScriptFault}
use Rattle.script.specs.declared.fault.ScriptFault.TheVariants.{BadScript}
use Rattle.script.specs.Faults.{IfBad}

-- what holds of an error holds of the one that a result is
pub at_this : {T E : Type 0} (P : E → Type 0) (r : Result T E) (e : E) → IsErrAnd r (λ x. x ≡ e) → P e → IfErr r P
at_this P (Ok x) e is p = tt
at_this P (Err x) e is p = subst P (sym is) p

-- what is said of a place where the text is bad
pub bad_there : (P : ℕ → Type 0) (fault : ScriptFault) (at : ℕ) → fault ≡ BadScript at → IfBad fault P → P at
bad_there P fault at is bad = subst (λ (f : ScriptFault). IfBad f P) is bad
