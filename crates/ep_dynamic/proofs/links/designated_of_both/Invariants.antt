use Rattle.std.proofs.Common.{◌↔◌}
use Rattle.ep_logic.specs.declared.ids.EventId.{EventId}
use Rattle.ep_theory.specs.Rising.{IsIn}
use Rattle.ep_dynamic.specs.Composition.{IsDesignatedBefore}
use Rattle.ep_dynamic.proofs.links.designated_of_both.Given as goal

abbrev pub invariant-loop-k : goal.invariant-loop-k
invariant-loop-k l = (x : EventId) → IsIn x l.ids ↔ IsDesignatedBefore l.a l.b l.k x.n
