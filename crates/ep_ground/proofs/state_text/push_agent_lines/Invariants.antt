use Rattle.std.proofs.Common.{◌≡◌, ◌++◌}
use Rattle.std.specs.List.{flat_map}
use Rattle.ep_logic.specs.Numbers.{table}
use Rattle.ep_ground.specs.StateText as spec
use Rattle.ep_base.specs.Texts.{line}
use Rattle.ep_ground.proofs.state_text.push_agent_lines.Given as goal

abbrev pub invariant-loop-world : goal.invariant-loop-world
invariant-loop-world l = l.text ≡ l.fn.text ++ flat_map line (table (spec.link_line l.state l.agent.n l.name) l.world)
