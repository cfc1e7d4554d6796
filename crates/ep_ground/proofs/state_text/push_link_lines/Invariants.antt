use Rattle.std.proofs.Common.{◌≡◌, ◌++◌}
use Rattle.std.specs.List.{flat_map}
use Rattle.ep_logic.specs.Numbers.{table}
use Rattle.ep_ground.specs.StateText as spec
use Rattle.ep_base.specs.Texts.{line}
use Rattle.ep_ground.proofs.state_text.push_link_lines.Given as goal

abbrev pub invariant-loop-agent : goal.invariant-loop-agent
invariant-loop-agent l = l.text ≡ l.fn.text ++ flat_map line (flat_map (spec.agent_lines l.state l.agents) (table (λ a. a) l.agent))
