use Rattle.std.proofs.Common.{◌≡◌, map, take}
use Rattle.ep_event.specs.declared.parts.Assign.{Assign}
use Rattle.ep_update.specs.Places.{label_of}
use Rattle.ep_update.proofs.labelling.assigned_labels.Given as goal

abbrev pub invariant-loop-set : goal.invariant-loop-set
invariant-loop-set l = l.rows ≡ map (λ (set : Assign). label_of l.s set.value) (take l.set-index l.sets)
