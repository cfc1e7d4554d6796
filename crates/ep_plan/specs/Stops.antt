-- The outcome of a run that stops at a step whose product is refused.
use Rattle.std.specs.Prelude.{ℕ, Option, Some, None}
use Rattle.ep_update.specs.declared.update.UpdateError.{UpdateError}
use Rattle.ep_update.specs.declared.update.UpdateError.TheVariants.{Inapplicable, TooManyWorlds, TooManyLinks, OutOfMemory}
use Rattle.ep_plan.specs.declared.runs.Outcome.{Outcome}
use Rattle.ep_plan.specs.declared.runs.Outcome.TheVariants.{Stuck, SpentWorlds, SpentLinks}

-- want of memory is no outcome
abbrev pub stop_of : ℕ → UpdateError → Option Outcome
stop_of k (Inapplicable w) = Some (Stuck k)
stop_of k (TooManyWorlds n) = Some (SpentWorlds k n)
stop_of k (TooManyLinks n) = Some (SpentLinks k n)
stop_of k OutOfMemory = None
