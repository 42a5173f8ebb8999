use Rattle.std.proofs.Common.{◌≡◌, ◌++◌, ◌∷◌, [], None, sym, subst, arith}
use Rattle.std.proofs.lemmas.Grind.{common_steps}
use Rattle.row_types.specs.Schema.{refusal, IsSchema, IsNamed}
use Rattle.row_types.proofs.SchemaLaws.{schema_push}
use Rattle.row_types.proofs.schema.Schema.add.Goals as goal

pub invariant_of-self-2 : goal.invariant_of-self-2
invariant_of-self-2 c =
    let none : refusal c.self.inside.tables c.args.def ≡ None = grind (arith, common_steps) in
    let named : IsNamed c.args.def = c.in_default.ensures.named in
    let items : c.push.new.self ≡ c.self.inside.tables ++ c.args.def ∷ [] = grind (arith, common_steps) in
    subst IsSchema (sym items) (schema_push c.self.inside.tables c.args.def c.self.invariant named none)
