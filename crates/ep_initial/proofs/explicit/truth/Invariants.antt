use Rattle.std.proofs.Common.{◌≡◌, map, take}
use Rattle.ep_initial.specs.Explicit.{truth_at}
use Rattle.ep_initial.proofs.explicit.truth.Given as goal

abbrev pub invariant-loop-world : goal.invariant-loop-world
invariant-loop-world l = l.rows ≡ map (truth_at l.universe.names) (take l.world-index l.worlds)
