use Rattle.std.proofs.Common.{◌≡◌, true}
use Rattle.ep_logic.specs.Numbers.{pairs_within}
use Rattle.ep_dynamic.proofs.events.all_pairs.Given as goal

abbrev pub invariant-loop-e : goal.invariant-loop-e
invariant-loop-e l = l.pairs ≡ pairs_within (λ e f. true) l.second l.e
