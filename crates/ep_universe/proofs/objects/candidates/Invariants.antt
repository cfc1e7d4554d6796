use Rattle.std.proofs.Common.{◌≡◌, take}
use Rattle.ep_types.specs.Tasks.{declarations}
use Rattle.ep_universe.specs.Objects.{candidates}
use Rattle.ep_universe.proofs.objects.candidates.Given as goal

abbrev pub invariant-loop-param : goal.invariant-loop-param
invariant-loop-param l = l.lists ≡ candidates (declarations l.typed) (take l.param-index l.params)
