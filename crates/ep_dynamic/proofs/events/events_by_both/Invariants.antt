use Rattle.std.proofs.Common.{◌≡◌, map, take}
use Rattle.ep_event.specs.Built.{event_of}
use Rattle.ep_dynamic.specs.Composition.{events_in_turn}
use Rattle.ep_dynamic.proofs.events.events_by_both.Given as goal

abbrev pub invariant-loop-at : goal.invariant-loop-at
invariant-loop-at l = map event_of l.events ≡ map (events_in_turn l.a l.b) (take l.at-index l.pairs)
