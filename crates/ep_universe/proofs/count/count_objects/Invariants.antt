use Rattle.std.proofs.Common.{◌≡◌, ◌≤◌, length}
use Rattle.ep_logic.specs.Numbers.{numbers_where}
use Rattle.ep_types.specs.Tasks.{declarations}
use Rattle.ep_universe.specs.Objects.{has_type}
use Rattle.ep_universe.proofs.count.count_objects.Given as goal

abbrev pub invariant-loop-number : goal.invariant-loop-number
invariant-loop-number l = record {
  is : l.count ≡ length (numbers_where (has_type (declarations l.typed) l.kind) l.number);
  few : l.count ≤ l.number;
}
