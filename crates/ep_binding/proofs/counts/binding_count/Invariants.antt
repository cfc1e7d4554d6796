use Rattle.std.proofs.Common.{◌≡◌, take}
use Rattle.ep_binding.specs.Bindings.{binding_count}
use Rattle.ep_binding.proofs.counts.binding_count.Given as goal

abbrev pub invariant-loop-objects : goal.invariant-loop-objects
invariant-loop-objects l = l.count ≡ binding_count (take l.objects-index l.params)
