use Rattle.std.proofs.Common.{◌≡◌, []}
use Rattle.ep_logic.specs.Numbers.{table}
use Rattle.ep_initial.proofs.meeting.no_relations.Given as goal

abbrev pub invariant-loop-agent : goal.invariant-loop-agent
invariant-loop-agent l = l.relations ≡ table (λ _. table (λ _. []) l.worlds) l._agent
