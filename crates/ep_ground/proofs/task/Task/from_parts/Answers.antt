use Rattle.std.proofs.Common.{sym, subst}
use Rattle.ep_theory.specs.Kripke.{IsState}
use Rattle.ep_theory.specs.PlanningTask.{PlanningTask}
use Rattle.ep_ground.specs.Grounding.{IsNamed}
use Rattle.ep_ground.proofs.TaskLemmas.{named_task, same_task}
use Rattle.ep_ground.proofs.task.Task.from_parts.Goals as goal

pub invariant_of-result : goal.invariant_of-result
invariant_of-result c =
    let u = c.args.universe in
    subst IsNamed (sym (same_task u c.requires.known _ _ c.requires.actions c.requires.problem)) (named_task u c.requires.known c.requires.frames (subst (λ (T : PlanningTask). IsState T.initial) c.requires.problem c.known.ensures.valid.initial))

pub returns : goal.returns
returns c = same_task c.args.universe c.requires.known _ _ c.requires.actions c.requires.problem
