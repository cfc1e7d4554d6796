use Rattle.ep_truth.proofs.SweepLemmas.{IsSweeping}
use Rattle.ep_truth.proofs.common.sweep.Given as goal

abbrev pub invariant-loop-a : goal.invariant-loop-a
invariant-loop-a l = IsSweeping l.s l.group l.initial.row l.a l.none l.row
