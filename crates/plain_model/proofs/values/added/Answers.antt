use Rattle.std.proofs.Common.{◌≡◌, ◌+ℤ◌, sym, subst, ◌∙◌}
use Rattle.std.specs.Prelude.{FitsSigned}
use Rattle.std.specs.Int.{w64}
use mir.Val.{to_z, of_z}
use Rattle.std.proofs.lemmas.Int.{to_z-of_z}
use Rattle.plain_model.proofs.Checked.{some_is, none_is}
use Rattle.plain_model.proofs.values.added.Goals as goal

pub returns-in-Some : goal.returns-in-Some
returns-in-Some c =
    let a = to_z-of_z w64 c.args.a c.ranges.a in
    let b = to_z-of_z w64 c.args.b c.ranges.b in
    let same : to_z w64 (of_z w64 c.args.a) +ℤ to_z w64 (of_z w64 c.args.b) ≡ c.args.a +ℤ c.args.b = cc in
    let total : FitsSigned w64 (c.args.a +ℤ c.args.b) = subst (λ n. FitsSigned w64 n) same c.in-Some.ensures.0 in
    let is : c.in-Some.sum ≡ c.args.a +ℤ c.args.b = c.in-Some.ensures.1 ∙ same in
    let written : to_z w64 (of_z w64 c.in-Some.sum) ≡ c.in-Some.sum = to_z-of_z w64 c.in-Some.sum (subst (λ n. FitsSigned w64 n) (sym is) total) in
    some_is (c.args.a +ℤ c.args.b) (to_z w64 (of_z w64 c.in-Some.sum)) total (written ∙ is)

pub returns-in-None : goal.returns-in-None
returns-in-None c =
    let a = to_z-of_z w64 c.args.a c.ranges.a in
    let b = to_z-of_z w64 c.args.b c.ranges.b in
    let same : to_z w64 (of_z w64 c.args.a) +ℤ to_z w64 (of_z w64 c.args.b) ≡ c.args.a +ℤ c.args.b = cc in
    none_is (c.args.a +ℤ c.args.b) (λ fits. c.in-None.ensures (subst (λ n. FitsSigned w64 n) (sym same) fits))
