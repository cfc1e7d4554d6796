use Rattle.std.proofs.Common.{ℕ, ◌<◌, length}
use Rattle.ep_theory.specs.Events.{event_links}
use Rattle.ep_theory.specs.Equivalences.{IsEquivalence}
use Rattle.ep_event.proofs.action.Action.is_s5.Given as goal

abbrev pub invariant-loop-n : goal.invariant-loop-n
invariant-loop-n l = (a : ℕ) → a < l.n → IsEquivalence (length l.self.events) (event_links l.self a)
