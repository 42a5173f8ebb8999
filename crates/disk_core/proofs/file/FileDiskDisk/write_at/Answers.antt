use Rattle.disk_core.specs.HistoryLaws.{nothing_torn}
use Rattle.disk_core.proofs.file.FileDiskDisk.write_at.Goals as goal

pub returns-clause-crash : goal.returns-clause-crash
returns-clause-crash c image any = (image, any, nothing_torn c.args.at c.args.bytes.now image)
