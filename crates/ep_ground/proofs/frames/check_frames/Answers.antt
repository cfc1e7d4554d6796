use Rattle.std.proofs.Common.{length, sym, ap, ◌∙◌}
use Rattle.ep_theory.specs.PlanningTask.{PlanningTask}
use Rattle.ep_ground.proofs.TaskLemmas.{as_many_actions}
use Rattle.ep_ground.proofs.frames.check_frames.Goals as goal

pub check_relations-requires-clause-names : goal.check_relations-requires-clause-names
check_relations-requires-clause-names c =
    let u = c.args.universe.now in
    ap length c.requires.actions ∙ as_many_actions u.names u.tree.schemas ∙ sym (ap (λ (T : PlanningTask). length T.actions) c.requires.problem)
