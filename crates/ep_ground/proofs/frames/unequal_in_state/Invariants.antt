use Rattle.std.proofs.Common.{◌≡◌, drop}
use Rattle.ep_ground.specs.Frames.{unequal_agent}
use Rattle.ep_ground.proofs.frames.unequal_in_state.Given as goal

abbrev pub invariant-loop-n : goal.invariant-loop-n
invariant-loop-n l = unequal_agent (drop l.n l.agents) l.state.worlds (drop l.n l.state.links) ≡ unequal_agent l.agents l.state.worlds l.state.links
