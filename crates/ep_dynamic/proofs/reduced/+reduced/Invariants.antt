use Rattle.std.proofs.Common.{◌≡◌, map, take}
use Rattle.ep_dynamic.specs.Reduction.{knows_of, reduce}
use Rattle.ep_dynamic.proofs.reduced.+reduced.Given as goal

abbrev pub invariant-reduced_parts-loop-part : goal.invariant-reduced_parts-loop-part
invariant-reduced_parts-loop-part l = l.all ≡ map (reduce l.a l.e.n) (take l.part-index l.parts)

abbrev pub invariant-reduced_known-loop-d : goal.invariant-reduced_known-loop-d
invariant-reduced_known-loop-d l = l.all ≡ map (knows_of l.a l.g (λ d. reduce l.a d l.inner)) (take l.d-index l.d-items)
