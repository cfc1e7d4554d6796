-- The relations of an action, row by row.
use Rattle.std.proofs.Common.{ℕ, ◌<◌, [], length, subst}
use Rattle.std.specs.List.{AllByRecursion}
use Rattle.ep_theory.specs.Rising.{IsRising}
use Rattle.ep_theory.specs.Kripke.{pair_cmp, successors}
use Rattle.ep_theory.specs.Events.{EventModel, IsAction, event_links}
use Rattle.ep_theory.specs.Equivalences.{AreClasses, IsEquivalence, IsS5Action}
use Rattle.ep_theory.proofs.CallerLemmas.{All-at, All-from_each, at_All, from_classes, from_successors, place_of, to_classes}

module _ (A : EventModel) (valid : IsAction A) where
  within : (a : ℕ) → a < length A.links → AllByRecursion (λ p. (p.0 < length A.events) × (p.1 < length A.events)) (event_links A a)
  within a l = All-at (λ pairs. AllByRecursion (λ p. (p.0 < length A.events) × (p.1 < length A.events)) pairs) A.links a [] l valid.within

  -- the targets of an event are events
  pub targets_within : (a e : ℕ) → a < length A.links → AllByRecursion (λ f. f < length A.events) (successors (event_links A a) e)
  targets_within a e l = All-from_each (λ f. f < length A.events) (successors (event_links A a) e) (λ f i.
      (at_All (λ (p : ℕ × ℕ). (p.0 < length A.events) × (p.1 < length A.events)) (e, f) (event_links A a) (within a l) (from_successors e f (event_links A a) i)).1)

  pub from_event_classes : (a : ℕ) → a < length A.links → AreClasses (length A.events) (event_links A a) → IsEquivalence (length A.events) (event_links A a)
  from_event_classes a l c = from_classes (length A.events) (event_links A a) (within a l) c

  pub to_event_classes : (a : ℕ) → a < length A.links → IsEquivalence (length A.events) (event_links A a) → AreClasses (length A.events) (event_links A a)
  to_event_classes a l e = to_classes (length A.events) (event_links A a) (All-at (IsRising pair_cmp) A.links a [] l valid.rising) (within a l) e

module _ (A : EventModel) where
  pub from_each_agent : ((a : ℕ) → a < length A.links → IsEquivalence (length A.events) (event_links A a)) → IsS5Action A
  from_each_agent e = All-from_each (IsEquivalence (length A.events)) A.links (λ pairs i.
      let p = place_of pairs A.links [] i in
      subst (IsEquivalence (length A.events)) p.2 (e p.0 p.1))

  pub at_agent : IsS5Action A → (a : ℕ) → a < length A.links → IsEquivalence (length A.events) (event_links A a)
  at_agent s a l = All-at (IsEquivalence (length A.events)) A.links a [] l s
