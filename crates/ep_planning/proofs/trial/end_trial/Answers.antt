-- A plan that was found is short.
use Rattle.std.proofs.Common.{subst, arith}
use Rattle.ep_search.specs.Allowed.{Allowed}
use Rattle.ep_search.specs.declared.answer.Answer.{Answer as Found}
use Rattle.ep_bounds.specs.declared.bounds.Mode.TheVariants as mode
use Rattle.ep_planning.specs.Trials.{trial_bounds}
use Rattle.ep_planning.proofs.trial.end_trial.Goals as goal

pub judge-requires-clause-length : goal.judge-requires-clause-length
judge-requires-clause-length c =
    let allowed = subst (λ (a : Found). Allowed c.args.task.now.problem (trial_bounds c.args.children) mode.Prove a) c.in-Least.is c.requires.allowed in
    omega (arith, allowed.1.within, c.requires.children)
