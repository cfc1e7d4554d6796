use Rattle.std.proofs.Common.{◌↔◌, ℕ, length, take}
use Rattle.ep_theory.specs.Rising.{IsIn}
use Rattle.ep_event.specs.declared.parts.EventLink.{EventLink}
use Rattle.ep_dynamic.specs.Composition.{IsLinkBetween}
use Rattle.ep_dynamic.proofs.links.links_of_both.Given as goal

abbrev pub invariant-loop-at : goal.invariant-loop-at
invariant-loop-at l = (x : EventLink) → IsIn x l.links ↔ ((at : ℕ × ℕ) × IsIn at (take l.at-index l.at-items) × IsLinkBetween l.a l.b (length l.a.links) at x)
