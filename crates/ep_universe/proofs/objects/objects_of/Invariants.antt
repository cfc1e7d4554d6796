use Rattle.std.proofs.Common.{◌≡◌}
use Rattle.ep_logic.specs.Numbers.{numbers_where}
use Rattle.ep_types.specs.Tasks.{declarations}
use Rattle.ep_universe.specs.Objects.{has_type}
use Rattle.ep_universe.proofs.objects.objects_of.Given as goal

abbrev pub invariant-loop-number : goal.invariant-loop-number
invariant-loop-number l = l.objects ≡ numbers_where (has_type (declarations l.typed) l.kind) l.number
