use Rattle.std.proofs.Common.{◌↔◌, ◌⊎◌}
use Rattle.ep_theory.specs.Rising.{IsIn}
use Rattle.ep_event.specs.declared.parts.EventLink.{EventLink}
use Rattle.ep_dynamic.specs.Composition.{IsLinkBetween}
use Rattle.ep_dynamic.proofs.links.put_links.Given as goal

abbrev pub invariant-loop-n : goal.invariant-loop-n
invariant-loop-n l = (x : EventLink) → IsIn x l.links ↔ (IsIn x l.initial.links ⊎ IsLinkBetween l.a l.b l.n l.ends x)
