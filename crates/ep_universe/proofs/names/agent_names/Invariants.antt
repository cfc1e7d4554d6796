use Rattle.std.proofs.Common.{◌≡◌, take, map}
use Rattle.ep_types.specs.Tasks.{declarations}
use Rattle.ep_universe.specs.PrintedNames.{object_name}
use Rattle.ep_universe.proofs.names.agent_names.Given as goal

abbrev pub invariant-loop-object : goal.invariant-loop-object
invariant-loop-object l = l.agents ≡ map (object_name (declarations l.typed)) (take l.object-index l.objects)
