use Rattle.std.proofs.Common.{◌+◌, length}
use Rattle.ep_refine.specs.Marking.{unmarked}
use Rattle.ep_refine.proofs.ReachLemmas.{Searches}
use Rattle.ep_refine.proofs.reach.reachable.Given as goal

abbrev pub invariant-loop-w : goal.invariant-loop-w
invariant-loop-w l = Searches l.s l.marked l.waiting.items

abbrev pub decreases-loop-w : goal.decreases-loop-w
decreases-loop-w l = unmarked l.marked + length l.waiting.items
