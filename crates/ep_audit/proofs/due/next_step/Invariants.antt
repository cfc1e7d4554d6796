use Rattle.std.proofs.Common.{ℕ, ◌<◌, ◌≤◌}
use Rattle.ep_audit.specs.Certificates.{IsDue}
use Rattle.ep_audit.proofs.due.next_step.Given as goal

abbrev pub invariant-loop-pair : goal.invariant-loop-pair
invariant-loop-pair l = (j : ℕ) → l.from ≤ j → j < l.pair → IsDue l.task l.told j → ⊥
