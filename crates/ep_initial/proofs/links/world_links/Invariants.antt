use Rattle.std.proofs.Common.{◌≡◌, []}
use Rattle.ep_universe.specs.Links.{agent_pairs}
use Rattle.ep_initial.specs.Made.{world_links}
use Rattle.ep_initial.proofs.links.world_links.Given as goal

abbrev pub invariant-loop-n : goal.invariant-loop-n
invariant-loop-n l = l.links ≡ world_links (agent_pairs l.universe.names [] l.names l.items) l.n
