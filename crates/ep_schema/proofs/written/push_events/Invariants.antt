use Rattle.std.proofs.Common.{◌≡◌, ◌++◌, map, take}
use Rattle.std.specs.List.{flat_map}
use Rattle.ep_schema.specs.Written.{written, event_formulas}
use Rattle.ep_schema.proofs.written.push_events.Given as goal

abbrev pub invariant-loop-event : goal.invariant-loop-event
invariant-loop-event l = l.formulas ≡ l.initial.formulas ++ map (written l.times) (flat_map event_formulas (take l.event-index l.events))
