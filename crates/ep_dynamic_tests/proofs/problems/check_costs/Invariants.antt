use Rattle.std.proofs.Common.{◌≤◌, take}
use Rattle.std.specs.List.{AllByRecursion}
use Rattle.ep_dynamic_tests.proofs.problems.check_costs.Given as goal

abbrev pub invariant-loop-cost : goal.invariant-loop-cost
invariant-loop-cost g l =
    AllByRecursion (λ cost. 1 ≤ cost) (take l.cost-index l.costs) × AllByRecursion (λ cost. cost ≤ 100) (take l.cost-index l.costs)
