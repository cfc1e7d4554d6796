use Rattle.std.proofs.Common.{◌≡◌}
use Rattle.ep_event.specs.Relations.{linked_rows}
use Rattle.ep_logic.specs.Numbers.{table}
use Rattle.ep_event.proofs.relations.relations.Given as goal

abbrev pub invariant-loop-agent : goal.invariant-loop-agent
invariant-loop-agent l = l.relations ≡ table (linked_rows l.links l.events) l.agent
