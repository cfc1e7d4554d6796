use Rattle.std.proofs.Common.{◌≡◌, map, take}
use Rattle.ep_logic.specs.Numbers.{has_number}
use Rattle.ep_universe.specs.Objects.{agent_at, eight}
use Rattle.ep_universe.proofs.universe.Universe.members.Given as goal

abbrev pub invariant-loop-name : goal.invariant-loop-name
invariant-loop-name l = l.members ≡ eight (has_number (map (agent_at l.self.names l.binding) (take l.name-index l.names)))
