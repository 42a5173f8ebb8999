use Rattle.shell.proofs.LeadingLaws.{LeadingSoFar}
use Rattle.shell.proofs.leading.read_leading.Given as goal

abbrev pub invariant-loop-block : goal.invariant-loop-block
invariant-loop-block l = LeadingSoFar l.blocks l.block-index l.schema l.replies
