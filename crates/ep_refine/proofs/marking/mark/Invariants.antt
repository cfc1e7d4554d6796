use Rattle.std.proofs.Common.{take}
use Rattle.ep_theory.specs.Rising.{IsIn}
use Rattle.ep_refine.specs.Marking.{Marks}
use Rattle.ep_refine.proofs.marking.mark.Given as goal

abbrev pub invariant-loop-w : goal.invariant-loop-w
invariant-loop-w l = Marks (λ v. IsIn v (take l.w-index l.worlds)) l.initial.marked l.marked l.initial.waiting.items l.waiting.items
