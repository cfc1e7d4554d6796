use Rattle.ep_ground.specs.Faults.{limit_fault}
use Rattle.ep_ground.specs.Within.{IsWithinLimits}
use Rattle.ep_ground.proofs.WithinLemmas.{follows, is_within}
use Rattle.ep_ground.proofs.limits.check_limits.Goals as goal

pub returns-clause-within : goal.returns-clause-within
returns-clause-within c =
    let u = c.args.universe.now in
    follows (limit_fault u.names u.tree) c.check_rows.result (IsWithinLimits u.names u.tree) c.check_rows.ensures (is_within u c.known.ensures)
