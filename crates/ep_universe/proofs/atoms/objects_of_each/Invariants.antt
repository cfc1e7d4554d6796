use Rattle.std.proofs.Common.{◌≡◌, map, take}
use Rattle.ep_types.specs.Atoms.{texts}
use Rattle.ep_types.specs.Tasks.{declarations}
use Rattle.ep_universe.specs.Objects.{objects_of}
use Rattle.ep_universe.proofs.atoms.objects_of_each.Given as goal

abbrev pub invariant-loop-kind : goal.invariant-loop-kind
invariant-loop-kind l = l.lists ≡ map (objects_of (declarations l.typed)) (texts (take l.kind-index l.kinds))
