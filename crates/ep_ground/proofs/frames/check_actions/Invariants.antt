use Rattle.std.proofs.Common.{◌≡◌, drop}
use Rattle.ep_ground.proofs.FrameLemmas.{actions_told}
use Rattle.ep_ground.proofs.frames.check_actions.Given as goal

abbrev pub invariant-loop-n : goal.invariant-loop-n
invariant-loop-n l = actions_told l.agents (drop l.n l.parts.actions) (drop l.n l.parts.problem.actions) ≡ actions_told l.agents l.parts.actions l.parts.problem.actions
