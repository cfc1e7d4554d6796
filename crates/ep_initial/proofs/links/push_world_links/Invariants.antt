use Rattle.std.proofs.Common.{◌≡◌, ◌++◌, map, take}
use Rattle.ep_initial.specs.Made.{world_link}
use Rattle.ep_initial.proofs.links.push_world_links.Given as goal

abbrev pub invariant-loop-from : goal.invariant-loop-from
invariant-loop-from l = l.links ≡ l.initial.links ++ map (world_link l.agent.n) (take l.from-index l.pairs)
