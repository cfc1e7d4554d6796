use Rattle.std.proofs.Common.{◌≡◌, [], ◌∷◌}
use Rattle.ep_logic.specs.Numbers.{table}
use Rattle.ep_event.proofs.relations.loops.Given as goal

abbrev pub invariant-loop-agent : goal.invariant-loop-agent
invariant-loop-agent l = l.relations ≡ table (λ _. (0 ∷ []) ∷ []) l._agent
