use Rattle.std.proofs.Common.{◌≡◌, take, map, sum}
use Rattle.ep_types.specs.Tasks.{declarations}
use Rattle.ep_universe.specs.Counts.{ground_count, capped}
use Rattle.ep_universe.proofs.count.+count.Given as goal

abbrev pub invariant-count_parts-loop-part : goal.invariant-count_parts-loop-part
invariant-count_parts-loop-part l = l.nodes ≡ capped (sum (map (ground_count (declarations l.typed)) (take l.part-index l.parts)))
