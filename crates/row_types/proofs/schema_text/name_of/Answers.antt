use Rattle.std.proofs.Common.{length, subst}
use Rattle.std.specs.Prelude.{IfOk, SomeIff}
use Rattle.row_types.specs.Text.{IsNameLen}
use Rattle.row_types.proofs.NameReading.{name_is, no_name}
use Rattle.row_types.proofs.schema_text.name_of.Goals as goal

pub returns-in-Ok : goal.returns-in-Ok
returns-in-Ok c =
    name_is c.args.bytes.now c.new.result c.in-Ok.ensures.cases.1
    (subst (λ b. IfOk c.new.result (λ name. SomeIff name (IsNameLen (length b)) b)) c.in-Ok.ensures.cases.0 c.new.ensures)

pub returns-in-Err : goal.returns-in-Err
returns-in-Err c = no_name c.args.bytes.now c.in-Err.ensures.cases.0
