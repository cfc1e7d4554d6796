use Rattle.std.proofs.Common.{◌≡◌, ◌++◌, map, take}
use Rattle.ep_schema.specs.Made.{event_link}
use Rattle.ep_schema.proofs.links.push_event_links.Given as goal

abbrev pub invariant-loop-from : goal.invariant-loop-from
invariant-loop-from l = l.links ≡ l.initial.links ++ map (event_link l.agent.n) (take l.from-index l.pairs)
