use Rattle.std.proofs.Common.{◌≡◌, take}
use Rattle.ep_types.specs.Tasks.{world_names}
use Rattle.ep_initial.proofs.links.world_table.Given as goal

abbrev pub invariant-loop-world : goal.invariant-loop-world
invariant-loop-world l = l.names ≡ world_names (take l.world-index l.worlds)
