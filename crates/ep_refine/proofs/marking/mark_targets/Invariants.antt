use Rattle.ep_refine.specs.Marking.{Marks}
use Rattle.ep_refine.proofs.ReachLemmas.{TargetOfFirst}
use Rattle.ep_refine.proofs.marking.mark_targets.Given as goal

abbrev pub invariant-loop-a : goal.invariant-loop-a
invariant-loop-a l = Marks (TargetOfFirst l.s l.w.n l.a) l.initial.marked l.marked l.initial.waiting.items l.waiting.items
