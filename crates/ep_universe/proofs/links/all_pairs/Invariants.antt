use Rattle.std.proofs.Common.{◌≡◌, true}
use Rattle.ep_logic.specs.Numbers.{pairs_within}
use Rattle.ep_universe.proofs.links.all_pairs.Given as goal

abbrev pub invariant-loop-from : goal.invariant-loop-from
invariant-loop-from l = l.pairs ≡ pairs_within (λ _ _. true) l.count l.from
