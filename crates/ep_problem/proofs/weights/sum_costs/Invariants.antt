use Rattle.std.proofs.Common.{◌≡◌, ◌*◌, ◌≤◌, take}
use Rattle.ep_bounds.specs.declared.bounds.Measure.TheVariants.{Cost}
use Rattle.ep_bounds.specs.declared.bounds.TheConstants.{MOST_COST}
use Rattle.ep_theory.specs.Plans.{weight}
use Rattle.ep_problem.proofs.weights.sum_costs.Given as goal

abbrev pub invariant-loop-action : goal.invariant-loop-action
invariant-loop-action l = record {
  sum : l.sum ≡ weight l.problem Cost (take l.action-index l.plan);
  few : l.sum ≤ MOST_COST * l.action-index;
}
