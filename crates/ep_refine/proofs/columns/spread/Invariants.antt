use Rattle.std.proofs.Common.{◌≡◌, map, take, slice_index}
use Rattle.ep_refine.proofs.columns.spread.Given as goal

abbrev pub invariant-loop-w : goal.invariant-loop-w
invariant-loop-w l = l.column ≡ map (λ w. slice_index l.numbers (slice_index l.slots (slice_index l.names w))) (take l.w-index l.worlds)
