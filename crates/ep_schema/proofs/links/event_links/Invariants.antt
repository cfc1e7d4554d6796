use Rattle.std.proofs.Common.{◌≡◌}
use Rattle.ep_universe.specs.Links.{agent_pairs}
use Rattle.ep_schema.specs.Made.{event_links}
use Rattle.ep_schema.proofs.links.event_links.Given as goal

abbrev pub invariant-loop-n : goal.invariant-loop-n
invariant-loop-n l = l.links ≡ event_links (agent_pairs l.universe.names l.binding l.names l.items) l.n
