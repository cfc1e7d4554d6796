use Rattle.std.proofs.Common.{◌≡◌, map, take}
use Rattle.ep_event.specs.Built.{set_of as assigned}
use Rattle.ep_schema.specs.Actions.{set_of}
use Rattle.ep_schema.proofs.actions.assignments.Given as goal

abbrev pub invariant-loop-set : goal.invariant-loop-set
invariant-loop-set l = map assigned l.made ≡ map (set_of l.universe.names l.binding) (take l.set-index l.sets)
