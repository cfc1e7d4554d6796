use Rattle.std.proofs.Common.{◌≡◌, ◌++◌, take, map}
use Rattle.ep_universe.specs.Formulas.{ground_of}
use Rattle.ep_universe.specs.Objects.{bound}
use Rattle.ep_universe.proofs.formula.+ground.Given as goal

abbrev pub invariant-ground_parts-loop-part : goal.invariant-ground_parts-loop-part
invariant-ground_parts-loop-part l = l.forms ≡ map (λ f. ground_of l.universe.names f l.binding) (take l.part-index l.parts)

abbrev pub invariant-ground_instances-loop-objects : goal.invariant-ground_instances-loop-objects
invariant-ground_instances-loop-objects l = l.forms ≡ map (λ objects. ground_of l.universe.names l.inner (l.binding ++ bound l.params objects)) (take l.objects-index l.objects-items)
