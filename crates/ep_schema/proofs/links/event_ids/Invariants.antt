use Rattle.std.proofs.Common.{◌≡◌, map, take}
use Rattle.ep_universe.specs.Links.{place_of}
use Rattle.ep_schema.specs.Made.{event}
use Rattle.ep_schema.proofs.links.event_ids.Given as goal

abbrev pub invariant-loop-name : goal.invariant-loop-name
invariant-loop-name l = l.ids ≡ map (λ x. event (place_of l.names x)) (take l.name-index l.designated)
