use Rattle.std.proofs.Common.{◌≡◌, drop, unwrap_or}
use Rattle.std.specs.Option.{option_copied}
use Rattle.ep_tree.specs.declared.tree.PairsTree.TheVariants.{Same}
use Rattle.ep_universe.specs.Links.{last_pairs}
use Rattle.ep_universe.proofs.links.find_last_pairs.Given as goal

abbrev pub invariant-loop-link : goal.invariant-loop-link
invariant-loop-link l = last_pairs l.universe.names l.binding l.agent.n Same l.links ≡ last_pairs l.universe.names l.binding l.agent.n (unwrap_or (option_copied l.last) Same) (drop l.link-index l.links)
