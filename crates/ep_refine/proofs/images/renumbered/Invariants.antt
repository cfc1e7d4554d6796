use Rattle.std.proofs.Common.{◌≡◌, map, filter, take, slice_index}
use Rattle.ep_logic.specs.Rows.{value_at}
use Rattle.ep_refine.proofs.images.renumbered.Given as goal

abbrev pub invariant-loop-w : goal.invariant-loop-w
invariant-loop-w l = l.list.items ≡ map (slice_index l.numbers) (filter (value_at l.keep) (take l.w-index l.worlds))
