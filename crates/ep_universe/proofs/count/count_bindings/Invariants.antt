use Rattle.std.proofs.Common.{◌≡◌, take}
use Rattle.ep_binding.specs.Bindings.{binding_count}
use Rattle.ep_types.specs.Tasks.{declarations}
use Rattle.ep_universe.specs.Counts.{capped}
use Rattle.ep_universe.specs.Objects.{candidates}
use Rattle.ep_universe.proofs.count.count_bindings.Given as goal

abbrev pub invariant-loop-param : goal.invariant-loop-param
invariant-loop-param l = l.count ≡ capped (binding_count (candidates (declarations l.typed) (take l.param-index l.params)))
