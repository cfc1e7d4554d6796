use Rattle.std.proofs.Common.{All}
use Rattle.ep_binding.specs.Bindings.{IsObjects}
use Rattle.ep_universe_tests.proofs.binding_lists.parameters.Given as goal

abbrev pub invariant-loop-first : goal.invariant-loop-first
invariant-loop-first g l = All IsObjects l.params
