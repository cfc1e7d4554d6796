use Rattle.ep_truth.proofs.CommonLemmas.{IsGathering}
use Rattle.ep_truth.proofs.common.sources_of.Given as goal

abbrev pub invariant-loop-a : goal.invariant-loop-a
invariant-loop-a l = IsGathering l.s l.group l.row l.a l.sources
