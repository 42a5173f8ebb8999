-- A writer at rest latches a node.
use Rattle.std.proofs.Common.{◌≡◌, ℕ, ◌+◌, ◌*◌, ◌%◌, ◌<◌, [], length, refl, sym, subst, arith, add-zero}
use mathlib.Core.Option.{none}
use Rattle.atomic_table.specs.Table.{step, Allows}
use Rattle.olfit_rule.specs.declared.view.View.{View}
use Rattle.olfit_rule.specs.Tree.{Nodes, version}
use Rattle.olfit_rule.specs.Rule.{IsAtRest, Kept, Sat, put, wrote}
use Rattle.olfit_rule.proofs.Keeps.{writes}
use Rattle.olfit_rule.proofs.Rewrites.{partly_latched}

pub latches : (slots id : ℕ) (me : Sat) (i b : ℕ) → IsAtRest me.0 → i < length me.0.seen.image → b ≡ version me.0.seen.image i + 1
    → Allows Kept slots id me (i * 64) (λ _. b) (λ _. wrote (step slots (i * 64) b 0 none) me b)
latches slots id me i b rest inside is =
    let v : View = me.0 in
    let next : ℕ = version v.seen.image i + 1 in
    let latched = partly_latched i [] v (record v { words = put v.words i 0 next }) rest inside refl in
    let odd = latched.odd in
    let even : version v.words i % 2 ≡ 0 = subst (λ (a : Nodes). version a i % 2 ≡ 0) (sym rest.same) (rest.even i inside) in
    let there : i < length v.words = subst (λ (a : Nodes). i < length a) (sym rest.same) inside in
    let at : Allows Kept slots id me (i * 64 + 0) (λ _. next) (λ _. wrote (step slots (i * 64 + 0) next 0 none) me next) =
    writes slots id me i 0 next there (omega arith) rest.writes (omega arith) (omega arith) in
    subst (λ (z : ℕ). Allows Kept slots id me (i * 64) (λ _. z) (λ _. wrote (step slots (i * 64) z 0 none) me z)) (sym is)
    (subst (λ (q : ℕ). Allows Kept slots id me q (λ _. next) (λ _. wrote (step slots q next 0 none) me next)) (add-zero (i * 64)) at)
