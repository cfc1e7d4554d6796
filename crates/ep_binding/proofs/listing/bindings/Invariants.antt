use Rattle.std.proofs.Common.{◌≡◌, drop}
use Rattle.ep_binding.specs.Bindings.{bindings}
use Rattle.ep_binding.proofs.listing.bindings.Given as goal

abbrev pub invariant-loop-at : goal.invariant-loop-at
invariant-loop-at l = l.all ≡ bindings (drop l.at l.params)
