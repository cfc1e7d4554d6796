use Rattle.std.proofs.Common.{◌≡◌, drop}
use Rattle.ep_types.specs.Faults.{first_fault}
use Rattle.ep_types.specs.Places.{scope}
use Rattle.ep_types.specs.Uses.{agent_uses}
use Rattle.ep_types.proofs.judge.check_agents.Given as goal

abbrev pub invariant-loop-member : goal.invariant-loop-member
invariant-loop-member l = let s = scope l.names l.frame in first_fault (agent_uses l.members s) ≡ first_fault (agent_uses (drop l.member-index l.members) s)
