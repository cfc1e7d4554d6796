-- The trial, from the contraction and the answer.
use Rattle.std.proofs.Common.{refl, subst, ◌∙◌, ap, arith}
use Rattle.ep_bounds.specs.declared.bounds.Bounds.{Bounds}
use Rattle.ep_theory.specs.PlanningTask.{PlanningTask}
use Rattle.ep_search.specs.Allowed.{Allowed}
use Rattle.ep_bounds.specs.declared.bounds.Mode.TheVariants as mode
use Rattle.ep_theory.specs.Kripke.{Kripke}
use Rattle.ep_planning.specs.Trials.{trial_bounds}
use Rattle.ep_planning.proofs.PlanLemmas.{allowed_has_actions}
use Rattle.ep_planning.proofs.trial.try_task.Goals as goal

pub end_trial-requires : goal.end_trial-requires
end_trial-requires g c =
    let found = c.in_ok-found.found in
    let allowed = subst (λ (T : PlanningTask). Allowed T (trial_bounds c.args.children) mode.Prove found) c.problem.ensures.value
    (subst (λ (b : Bounds). Allowed c.problem.result.now b mode.Prove found) c.bounds_of.ensures c.in_ok-found.ensures.allowed) in
    record {
      children = c.requires;
      allowed = allowed;
      actions = allowed_has_actions c.args.task.now (trial_bounds c.args.children) mode.Prove found c.problem.ensures.valid (omega (arith, c.requires)) c.known.ensures.actions allowed;
    }

pub returns-clause-trial : goal.returns-clause-trial
returns-clause-trial g c =
    let found = c.in_ok-found.found in
    let allowed = subst (λ (T : PlanningTask). Allowed T (trial_bounds c.args.children) mode.Prove found) c.problem.ensures.value
    (subst (λ (b : Bounds). Allowed c.problem.result.now b mode.Prove found) c.bounds_of.ensures c.in_ok-found.ensures.allowed) in
    record {
      children = refl;
      worlds = c.worlds.ensures.value ∙ ap (λ (S : Kripke). S.worlds) c.initial.ensures;
      contraction = c.in_ok-contracted.ensures.0;
      contracts = c.in_ok-contracted.ensures.1;
      contracted = c.in_ok-contracted.ensures.2;
      answer = found;
      allowed = allowed;
      ends = c.in_ok-end_trial.ensures;
    }
