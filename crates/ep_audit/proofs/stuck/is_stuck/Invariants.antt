use Rattle.std.proofs.Common.{ℕ, ◌<◌, get_or}
use Rattle.ep_theory.specs.Events.{event_at}
use Rattle.ep_theory.specs.Truth.{Truth}
use Rattle.ep_audit.proofs.stuck.is_stuck.Given as goal

abbrev pub invariant-loop-e : goal.invariant-loop-e
invariant-loop-e l = (k : ℕ) → k < l.e-index → Truth l.s l.w.n (event_at l.a (get_or l.e-items k 0)).pre → ⊥
