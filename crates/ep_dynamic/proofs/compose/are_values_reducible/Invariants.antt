use Rattle.std.proofs.Common.{◌≡◌, drop}
use Rattle.std.specs.List.{list_all}
use Rattle.ep_dynamic.specs.Reduction.{is_reducible}
use Rattle.ep_dynamic.proofs.compose.are_values_reducible.Given as goal

abbrev pub invariant-loop-set : goal.invariant-loop-set
invariant-loop-set l = list_all (λ set. is_reducible set.value) l.sets ≡ list_all (λ set. is_reducible set.value) (drop l.set-index l.sets)
