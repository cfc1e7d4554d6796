use Rattle.std.proofs.Common.{◌+◌, sym, ap, ◌∙◌, arith}
use Rattle.ep_problem.proofs.WeightLemmas.{cost_more}
use Rattle.ep_problem.proofs.weights.sum_costs.Goals as goal

pub loop-action-preserved : goal.loop-action-preserved
loop-action-preserved c = record {
  sum = ap (λ m. m + c.cost-sum.result) c.loop-action.invariant.sum
      ∙ sym (cost_more c.args.problem.now c.args.plan.now c.loop-action.action-index _ c.cost-sum.result c.loop-action-test.true c.cost-sum.ensures.value);
  few = omega (arith, c.loop-action.invariant.few, c.cost-sum.ensures.most);
}
