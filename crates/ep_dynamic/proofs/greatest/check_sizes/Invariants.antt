use Rattle.std.proofs.Common.{◌≡◌, drop, map}
use Rattle.ep_dynamic.specs.Composition.{events_in_turn}
use Rattle.ep_dynamic.specs.ComposeAnswers.{event_refusal, first_refusal}
use Rattle.ep_dynamic.proofs.greatest.check_sizes.Given as goal

abbrev pub invariant-loop-k : goal.invariant-loop-k
invariant-loop-k l = first_refusal event_refusal 0 (map (events_in_turn l.a l.b) l.pairs) ≡ first_refusal event_refusal l.k (drop l.k (map (events_in_turn l.a l.b) l.pairs))
