use Rattle.ep_theory.specs.Events.{event_links}
use Rattle.ep_theory.specs.Equivalences.{AreClasses}
use Rattle.ep_event.proofs.action.Action.is_equivalence.Given as goal

abbrev pub invariant-loop-n : goal.invariant-loop-n
invariant-loop-n l = AreClasses l.n (event_links l.self l.a.n)
