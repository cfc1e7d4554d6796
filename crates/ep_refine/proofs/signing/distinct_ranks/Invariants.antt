use Rattle.std.proofs.Common.{◌≡◌, map, take, slice_index}
use Rattle.ep_refine.proofs.signing.distinct_ranks.Given as goal

abbrev pub invariant-loop-w : goal.invariant-loop-w
invariant-loop-w l = l.list.items ≡ map (slice_index l.ranks) (take l.w-index l.worlds)
