use Rattle.std.proofs.Common.{◌≡◌, ℕ, map, take}
use Rattle.ep_logic.specs.declared.formula.Node.{Node}
use Rattle.ep_theory.specs.Events.{Event}
use Rattle.ep_update.specs.Places.{label_of}
use Rattle.ep_update.proofs.labelling.value_labels_of.Given as goal

abbrev pub invariant-loop-e : goal.invariant-loop-e
invariant-loop-e l = l.all ≡ map (λ (event : Event). map (λ (set : ℕ × Node). label_of l.s set.1) event.sets) (take l.e l.a.events)
