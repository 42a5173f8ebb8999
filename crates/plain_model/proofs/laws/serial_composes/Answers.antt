use Rattle.plain_model.proofs.BlockLaws.{serial_joined, serial_parted}
use Rattle.plain_model.proofs.laws.serial_composes.Goals as goal

pub returns-clause-joined : goal.returns-clause-joined
returns-clause-joined c = serial_joined

pub returns-clause-parted : goal.returns-clause-parted
returns-clause-parted c = serial_parted
