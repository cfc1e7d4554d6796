use Rattle.std.proofs.Common.{◌≡◌, take}
use Rattle.std.specs.List.{flat_map}
use Rattle.ep_binding.specs.Bindings.{with_first_apart}
use Rattle.ep_binding.proofs.distinct.extend_apart.Given as goal

abbrev pub invariant-loop-object : goal.invariant-loop-object
invariant-loop-object l = l.all ≡ flat_map (with_first_apart l.rests) (take l.object-index l.objects)
