use Rattle.std.proofs.Common.{◌≡◌, map, take}
use Rattle.ep_universe.specs.Links.{pair_of}
use Rattle.ep_universe.proofs.links.listed_pairs.Given as goal

abbrev pub invariant-loop-pair : goal.invariant-loop-pair
invariant-loop-pair l = l.pairs ≡ map (pair_of l.names) (take l.pair-index l.listed)
