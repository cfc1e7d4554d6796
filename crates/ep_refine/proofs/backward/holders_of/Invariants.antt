use Rattle.ep_refine.proofs.BackwardLemmas.{Held}
use Rattle.ep_refine.proofs.backward.holders_of.Given as goal

abbrev pub invariant-loop-name : goal.invariant-loop-name
invariant-loop-name l = Held l.names l.rows l.name-index l.left l.holders
