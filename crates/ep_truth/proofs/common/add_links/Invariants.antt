use Rattle.ep_truth.proofs.CommonLemmas.{IsAdding}
use Rattle.ep_truth.proofs.common.add_links.Given as goal

abbrev pub invariant-loop-w : goal.invariant-loop-w
invariant-loop-w l = IsAdding l.s l.a.n l.row l.initial.sources l.w l.sources
