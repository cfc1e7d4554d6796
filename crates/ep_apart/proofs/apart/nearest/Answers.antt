use Rattle.ep_apart.proofs.ApartLemmas.{nearer_missing}
use Rattle.ep_apart.proofs.apart.nearest.Goals as goal

pub loop-x-preserved : goal.loop-x-preserved
loop-x-preserved c = nearer_missing c.args.xs.now c.args.others.now c.loop-x.x-index c.loop-x.best c.nearer-best.result c.loop-x-test.true c.loop-x.invariant c.nearer-best.ensures
