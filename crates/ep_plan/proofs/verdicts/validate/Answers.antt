use Rattle.std.proofs.Common.{subst}
use Rattle.ep_plan.specs.Runs.{IsThrough, RunUnder}
use Rattle.ep_plan.specs.Verdicts.{widest}
use Rattle.ep_plan.proofs.Fitting.{goal_fits}
use Rattle.ep_plan.proofs.verdicts.validate.Goals as goal

pub holds_all-requires : goal.holds_all-requires
holds_all-requires g c =
    let through : IsThrough c.args.problem.now c.args.plan.now widest c.in-After.state =
    subst (RunUnder c.args.problem.now c.args.plan.now widest) c.in-After.is c.in_ok-state.ensures.run in
    goal_fits c.args.problem.now c.args.plan.now c.in-After.state c.goal.result.now c.goal.ensures.valid through.leaves c.goal.ensures.value
