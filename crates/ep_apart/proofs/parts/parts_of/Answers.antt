use Rattle.std.proofs.Common.{get_or}
use Rattle.ep_theory.proofs.CallerLemmas.{IsIn-at}
use Rattle.ep_apart.proofs.parts.parts_of.Goals as goal

pub returns-in-None : goal.returns-in-None
returns-in-None c = (get_or c.args.worlds.now c.loop-w.w-index 0, IsIn-at c.args.worlds.now c.loop-w.w-index 0 c.loop-w-test.true, c.in-None.is)
