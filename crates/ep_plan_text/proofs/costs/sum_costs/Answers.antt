use Rattle.std.specs.List.{AllByRecursion}
use Rattle.std.proofs.Common.{◌<◌, length, sym, subst}
use Rattle.ep_logic.specs.declared.ids.ActionId.{ActionId}
use Rattle.ep_theory.specs.PlanningTask.{PlanningTask}
use Rattle.ep_plan_text.proofs.WeightLemmas.{of_problem}
use Rattle.ep_plan_text.proofs.costs.sum_costs.Goals as goal

pub weigh-requires-clause-actions : goal.weigh-requires-clause-actions
weigh-requires-clause-actions c =
    let plan = of_problem c.args.task.now c.args.plan.now c.known.ensures c.requires.actions in
    subst (λ (T : PlanningTask). AllByRecursion (λ (a : ActionId). a.n < length T.actions) c.as_slice.result.now) (sym c.problem.ensures.value)
    (subst (λ p. AllByRecursion (λ (a : ActionId). a.n < length c.args.task.now.problem.actions) p) (sym c.as_slice.ensures) plan)
