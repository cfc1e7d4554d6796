-- The plan of a plan file, or its fault.
use Rattle.ep_reading.proofs.PlanFileLemmas.{plan_fault}
use Rattle.ep_reading.proofs.plans.read_plan.Goals as goal

pub returns-in-Ok : goal.returns-in-Ok
returns-in-Ok c = record { is_plan = c.in-Ok.ensures.plan; its_actions = c.in-Ok.ensures.of_task; few = c.in-Ok.ensures.few }

pub returns-in-Some : goal.returns-in-Some
returns-in-Some c = plan_fault c.args.subject c.args.task.now c.args.bytes.now c.in-Err.error c.in-Some.cause c.in-Err.ensures.fault c.in-Some.ensures
