use Rattle.std.proofs.Common.{◌≡◌, arith}
use Rattle.std.proofs.lemmas.Grind.{common_steps}
use Rattle.key_space.specs.Ranges.{shares}
use Rattle.key_space.proofs.RangeLaws.{shares_means}
use Rattle.key_space.proofs.range.Range.overlaps.Goals as goal

pub returns-then-le-clause-meaning : goal.returns-then-le-clause-meaning
returns-then-le-clause-meaning c =
    let test : c.le-then-le.result ≡ shares c.args.self.now c.args.o.now = grind (arith, common_steps) in
    shares_means c.args.self.now c.args.o.now c.requires.mine c.requires.other c.le-then-le.result test
