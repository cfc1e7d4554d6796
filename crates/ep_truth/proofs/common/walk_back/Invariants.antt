use Rattle.ep_truth.proofs.CommonLemmas.{IsSpreading, weight}
use Rattle.ep_truth.proofs.common.walk_back.Given as goal

abbrev pub invariant-loop-v : goal.invariant-loop-v
invariant-loop-v l = IsSpreading l.s l.group l.inner l.good l.waiting.items

abbrev pub decreases-loop-v : goal.decreases-loop-v
decreases-loop-v l = weight l.good l.waiting.items
