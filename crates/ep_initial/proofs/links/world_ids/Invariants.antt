use Rattle.std.proofs.Common.{◌≡◌, map, take}
use Rattle.ep_kripke.specs.Parts.{world}
use Rattle.ep_universe.specs.Links.{place_of}
use Rattle.ep_initial.proofs.links.world_ids.Given as goal

abbrev pub invariant-loop-name : goal.invariant-loop-name
invariant-loop-name l = l.ids ≡ map (λ x. world (place_of l.names x)) (take l.name-index l.designated)
