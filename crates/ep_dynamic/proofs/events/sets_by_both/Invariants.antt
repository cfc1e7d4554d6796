use Rattle.std.proofs.Common.{◌≡◌, ◌==◌, ℕ, map, take}
use Rattle.std.specs.List.{find}
use Rattle.ep_theory.specs.Events.{event_at}
use Rattle.ep_event.specs.Built.{set_of}
use Rattle.ep_logic.specs.declared.formula.Node.{Node}
use Rattle.ep_dynamic.specs.Composition.{value_in_turn}
use Rattle.ep_dynamic.proofs.events.sets_by_both.Given as goal

abbrev pub invariant-loop-p : goal.invariant-loop-p
invariant-loop-p l = map set_of l.sets ≡ map {A = ℕ} {B = ℕ × Node} (λ p. (p, value_in_turn l.a l.at.0 p (find (λ set. set.0 == p) (event_at l.b l.at.1).sets))) (take l.p-index l.p-items)
