use Rattle.std.proofs.Common.{◌≡◌, drop, length}
use Rattle.ep_ground.specs.Frames.{unequal_agent}
use Rattle.ep_ground.proofs.frames.unequal_in_action.Given as goal

abbrev pub invariant-loop-n : goal.invariant-loop-n
invariant-loop-n l = unequal_agent (drop l.n l.agents) (length l.action.events) (drop l.n l.action.links) ≡ unequal_agent l.agents (length l.action.events) l.action.links
