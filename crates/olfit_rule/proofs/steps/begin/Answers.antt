use Rattle.std.proofs.Common.{rules, ◌∙◌, ℕ, ◌*◌, ◌<◌, refl, sym, ap, subst, arith, length}
use Rattle.olfit_rule.specs.declared.view.View.{View}
use Rattle.olfit_rule.proofs.Keeps.{looks}
use Rattle.olfit_rule.proofs.steps.begin.Goals as goal

pub load-requires : goal.load-requires
load-requires c = (search rules, search rules, looks _ _ _ c.args.node c.requires.known.inside c.requires.known.reads)

pub returns-clause-seat : goal.returns-clause-seat
returns-clause-seat c =
    let l = c.load.ensures.2.1 c.args.node refl c.requires.known.inside in let n = l.loads in
    record { table = c.load.ensures.0; id = c.load.ensures.1; slots = c.load.ensures.2.0; writes = l.moved.writes; base = l.moved.kept.2; later = l.moved.later; told = l.moved.told; kept = l.moved.kept.1; loads = omega (arith, n) }

pub returns-clause-good : goal.returns-clause-good
returns-clause-good c = let l = c.load.ensures.2.1 c.args.node refl c.requires.known.inside in l.moved.good

pub returns-clause-begun : goal.returns-clause-begun
returns-clause-begun c = let l = c.load.ensures.2.1 c.args.node refl c.requires.known.inside in record { at = l.at; even = λ e. (l.found e).0; loads = l.loads }

pub returns-clause-reading : goal.returns-clause-reading
returns-clause-reading c =
    let l = c.load.ensures.2.1 c.args.node refl c.requires.known.inside in let n = l.moved.later.count (omega arith) in let last = l.at.1 in λ even. record {
      table_is = c.load.ensures.0 ∙ c.requires.own;
      inside = c.requires.inside;
      reads = l.moved.writes ∙ c.requires.known.reads;
      at = (l.at.0, omega arith);
      even = (even, (l.found even).0);
      wide = (l.found even).1;
      since = omega (arith, last);
    }
