use Rattle.std.proofs.Common.{◌≡◌, [], drop, unwrap_or}
use Rattle.std.specs.Option.{option_copied}
use Rattle.ep_initial.specs.Seeing.{last_seen}
use Rattle.ep_initial.proofs.seeing.find_last_seen.Given as goal

abbrev pub invariant-loop-item : goal.invariant-loop-item
invariant-loop-item l = last_seen l.universe.names l.agent.n [] l.sees ≡ last_seen l.universe.names l.agent.n (unwrap_or (option_copied l.last) []) (drop l.item-index l.sees)
