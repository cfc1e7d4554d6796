use Rattle.std.proofs.Common.{sym}
use Rattle.ep_plan.proofs.Fitting.{action_fits}
use Rattle.ep_plan.proofs.runs.next.Goals as goal

pub product-requires-clause-fits : goal.product-requires-clause-fits
product-requires-clause-fits g c =
    action_fits c.args.problem.now.initial c.args.state.now (sym c.requires.agents) (sym c.requires.atoms) c.action-action.result.now c.action-action.ensures.fits
