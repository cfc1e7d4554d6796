use Rattle.std.proofs.Common.{◌≡◌, drop}
use Rattle.ep_types.specs.Names.{declared}
use Rattle.ep_universe.proofs.objects.bound_to.Given as goal

abbrev pub invariant-loop-bound : goal.invariant-loop-bound
invariant-loop-bound l = declared l.name l.binding ≡ declared l.name (drop l.bound-index l.binding)
