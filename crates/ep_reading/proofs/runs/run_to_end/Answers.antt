-- What the plan leaves, or where its run stops.
use Rattle.std.proofs.Common.{subst, sym}
use Rattle.ep_theory.specs.PlanningTask.{PlanningTask}
use Rattle.ep_plan.specs.Runs.{AreOf}
use Rattle.ep_answer.specs.declared.run_stop.RunStop.TheVariants.{Stuck, SpentWorlds, SpentLinks}
use Rattle.ep_reading.proofs.PlanFileLemmas.{ran_stops}
use Rattle.ep_reading.proofs.RunLemmas.{actions_of_problem, left_of_run, run_is}
use Rattle.ep_reading.proofs.runs.run_to_end.Goals as goal

pub run_within-requires-clause-actions : goal.run_within-requires-clause-actions
run_within-requires-clause-actions c =
    subst (λ (T : PlanningTask). AreOf T c.args.plan.now) (sym c.problem.ensures.value) (actions_of_problem c.args.task.now c.args.plan.now c.known.ensures.actions c.requires.actions)

pub returns-in-After : goal.returns-in-After
returns-in-After c =
    left_of_run c.args.task.now c.args.plan.now _ c.in-After.state c.problem.result.now c.known.ensures c.problem.ensures.value c.problem.ensures.valid c.problem.ensures.small c.in_ok-state.ensures c.in-After.is

pub returns-in-Stuck : goal.returns-in-Stuck
returns-in-Stuck c = ran_stops c.args.whose c.args.task.now c.args.plan.now (Stuck c.in-Stuck.step) _ (run_is c.args.task.now c.args.plan.now _ _ c.problem.result.now c.problem.ensures.value c.in_ok-state.ensures c.in-Stuck.is) c.stop_of_run.ensures

pub returns-in-SpentWorlds : goal.returns-in-SpentWorlds
returns-in-SpentWorlds c =
    ran_stops c.args.whose c.args.task.now c.args.plan.now (SpentWorlds c.in-SpentWorlds.step c.in-SpentWorlds.worlds) _ (run_is c.args.task.now c.args.plan.now _ _ c.problem.result.now c.problem.ensures.value c.in_ok-state.ensures c.in-SpentWorlds.is) c.stop_of_run-in-SpentWorlds.ensures

pub returns-in-SpentLinks : goal.returns-in-SpentLinks
returns-in-SpentLinks c =
    ran_stops c.args.whose c.args.task.now c.args.plan.now (SpentLinks c.in-SpentLinks.step c.in-SpentLinks.links) _ (run_is c.args.task.now c.args.plan.now _ _ c.problem.result.now c.problem.ensures.value c.in_ok-state.ensures c.in-SpentLinks.is) c.stop_of_run-in-SpentLinks.ensures
