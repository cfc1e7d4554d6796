use Rattle.std.proofs.Common.{◌≡◌, ◌++◌, take}
use Rattle.ep_binding.specs.Bindings.{with_first_apart}
use Rattle.ep_binding.proofs.distinct.push_apart.Given as goal

abbrev pub invariant-loop-rest : goal.invariant-loop-rest
invariant-loop-rest l = l.all ≡ l.initial.all ++ with_first_apart (take l.rest-index l.rests) l.object
