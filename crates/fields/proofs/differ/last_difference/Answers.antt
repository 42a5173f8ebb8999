use Rattle.fields.proofs.DifferLaws.{differs_before}
use Rattle.fields.proofs.differ.last_difference.Goals as goal

pub loop-end-init : goal.loop-end-init
loop-end-init c = record {
  within = c.equal_back-end.ensures.within;
  after = differs_before c.args.a.now c.args.b.now c.args.first c.equal_back-end.result c.requires.differs c.equal_back-end.ensures.same;
  same = c.equal_back-end.ensures.same;
}
