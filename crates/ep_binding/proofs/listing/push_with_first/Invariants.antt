use Rattle.std.proofs.Common.{◌≡◌, ◌++◌, take}
use Rattle.ep_binding.specs.Bindings.{with_first}
use Rattle.ep_binding.proofs.listing.push_with_first.Given as goal

abbrev pub invariant-loop-rest : goal.invariant-loop-rest
invariant-loop-rest l = l.all ≡ l.initial.all ++ with_first (take l.rest-index l.rests) l.object
