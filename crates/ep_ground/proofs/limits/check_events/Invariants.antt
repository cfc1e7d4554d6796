use Rattle.std.proofs.Common.{◌≡◌, drop}
use Rattle.ep_ground.proofs.FirstLemmas.{many_from}
use Rattle.ep_ground.proofs.limits.check_events.Given as goal

abbrev pub invariant-loop-number : goal.invariant-loop-number
invariant-loop-number l = many_from 0 l.schemas ≡ many_from l.number (drop l.number l.schemas)
