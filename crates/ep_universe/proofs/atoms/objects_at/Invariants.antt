use Rattle.std.proofs.Common.{◌≡◌, map, take}
use Rattle.ep_types.specs.Tasks.{declarations}
use Rattle.ep_universe.specs.Objects.{object_at}
use Rattle.ep_universe.proofs.atoms.objects_at.Given as goal

abbrev pub invariant-loop-name : goal.invariant-loop-name
invariant-loop-name l = l.objects ≡ map (λ x. object_at (declarations l.typed) l.binding x.text) (take l.name-index l.names)
