use Rattle.std.proofs.Common.{◌≡◌, ◌==◌, ◌∷◌, map, take}
use Rattle.std.specs.List.{find}
use Rattle.ep_theory.specs.Events.{event_at}
use Rattle.ep_dynamic.specs.Composition.{events_in_turn, value_in_turn}
use Rattle.ep_dynamic.specs.ComposeAnswers.{greatest_size}
use Rattle.ep_dynamic.proofs.greatest.greatest.Given as goal

abbrev pub invariant-loop-p : goal.invariant-loop-p
invariant-loop-p l = l.size ≡ greatest_size ((events_in_turn l.a l.b l.at).pre ∷ map (λ p. value_in_turn l.a l.at.0 p (find (λ set. set.0 == p) (event_at l.b l.at.1).sets)) (take l.p-index l.p-items))
