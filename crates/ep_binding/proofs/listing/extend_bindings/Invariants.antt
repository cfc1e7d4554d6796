use Rattle.std.proofs.Common.{◌≡◌, take}
use Rattle.std.specs.List.{flat_map}
use Rattle.ep_binding.specs.Bindings.{with_first}
use Rattle.ep_binding.proofs.listing.extend_bindings.Given as goal

abbrev pub invariant-loop-object : goal.invariant-loop-object
invariant-loop-object l = l.all ≡ flat_map (with_first l.rests) (take l.object-index l.objects)
