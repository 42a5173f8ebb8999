use Rattle.std.proofs.Common.{refl}
use Rattle.row_types.specs.declared.block.BlockEnd.TheVariants.{Rollback, CutOff}
use Rattle.plain_model.proofs.BlockLaws.{back_transaction}
use Rattle.plain_model.proofs.laws.rolled_back_changes_nothing.Goals as goal

pub returns-clause-rolled_back : goal.returns-clause-rolled_back
returns-clause-rolled_back c = λ texts first last replies is. back_transaction texts Rollback first last replies (λ first now. refl) is

pub returns-clause-cut_off : goal.returns-clause-cut_off
returns-clause-cut_off c = λ texts first last replies is. back_transaction texts CutOff first last replies (λ first now. refl) is
