use Rattle.std.proofs.Common.{◌≡◌, drop}
use Rattle.ep_binding.specs.Bindings.{distinct_bindings}
use Rattle.ep_binding.proofs.distinct.distinct_bindings.Given as goal

abbrev pub invariant-loop-at : goal.invariant-loop-at
invariant-loop-at l = l.all ≡ distinct_bindings (drop l.at l.params)
