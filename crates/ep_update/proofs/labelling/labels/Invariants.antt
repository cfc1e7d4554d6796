use Rattle.std.proofs.Common.{◌≡◌, map, take}
use Rattle.ep_theory.specs.Events.{Event}
use Rattle.ep_update.specs.Places.{label_of}
use Rattle.ep_update.proofs.labelling.labels.Given as goal

abbrev pub invariant-loop-e : goal.invariant-loop-e
invariant-loop-e l = l.rows ≡ map (λ (event : Event). label_of l.s event.pre) (take l.e l.a.events)
