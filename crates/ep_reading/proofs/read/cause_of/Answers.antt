-- The cause of a relation that is no equivalence.
use Rattle.std.proofs.Common.{sym, subst}
use Rattle.ep_reading.specs.Served.{IsCauseOf}
use Rattle.ep_reading.proofs.read.cause_of.Goals as goal

pub returns-in-NotS5 : goal.returns-in-NotS5
returns-in-NotS5 c = subst (λ e. IsCauseOf c.args.found.now e c.not_s5.result) (sym c.in-NotS5.is) (c.not_s5.ensures c.args.found.now)
