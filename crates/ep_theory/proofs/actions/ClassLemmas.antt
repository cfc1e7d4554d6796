-- Equivalences row by row.
use Rattle.std.proofs.Common.{◌≡◌, ℕ, ◌<◌, List, sym, subst}
use Rattle.std.specs.Ordering.{nat_cmp}
use Rattle.std.specs.List.{AllByRecursion}
use Rattle.ep_theory.specs.Rising.{IsIn, IsRising}
use Rattle.ep_theory.specs.Kripke.{pair_cmp, successors}
use Rattle.ep_theory.specs.Equivalences.{AreClasses, IsEquivalence}
use Rattle.ep_theory.proofs.lists.Lists.{at_All, All-from_each, same_rising, from_successors, IsIn-successors}
use Rattle.ep_theory.proofs.lists.NumbersLemmas.{rising_successors}
use Rattle.ep_theory.proofs.states.Unique.{numbers}

module _ (n : ℕ) (pairs : List (ℕ × ℕ)) where
  abbrev row : ℕ → List ℕ
  row = successors pairs

  module _ (rising : IsRising pair_cmp pairs) (within : AllByRecursion (λ p. (p.0 < n) × (p.1 < n)) pairs) (e : IsEquivalence n pairs) where
    same_row : (w v : ℕ) → IsIn (w, v) pairs → row v ≡ row w
    same_row w v h = same_rising nat_cmp numbers (row v) (row w) (rising_successors pairs v rising) (rising_successors pairs w rising)
        (λ x i. IsIn-successors w x pairs (e.transitive w v x h (from_successors v x pairs i)))
        (λ x i. IsIn-successors v x pairs (e.transitive v w x (e.symmetric w v h) (from_successors w x pairs i)))

    pub to_classes : AreClasses n pairs
    to_classes w l = (IsIn-successors w w pairs (e.reflexive w l), All-from_each (λ v. row v ≡ row w) (row w) (λ v i. same_row w v (from_successors w v pairs i)))

  module _ (within : AllByRecursion (λ p. (p.0 < n) × (p.1 < n)) pairs) (c : AreClasses n pairs) where
    below : (w v : ℕ) → IsIn (w, v) pairs → w < n
    below w v h = (at_All (λ (p : ℕ × ℕ). (p.0 < n) × (p.1 < n)) (w, v) pairs within h).0

    row_of : (w v : ℕ) → IsIn (w, v) pairs → row v ≡ row w
    row_of w v h = at_All (λ v. row v ≡ row w) v (row w) (c w (below w v h)).1 (IsIn-successors w v pairs h)

    pub from_classes : IsEquivalence n pairs
    from_classes = record {
      reflexive = λ w l. from_successors w w pairs (c w l).0;
      symmetric = λ w v h. from_successors v w pairs (subst (IsIn w) (sym (row_of w v h)) (c w (below w v h)).0);
      transitive = λ w v u h k. from_successors w u pairs (subst (IsIn u) (row_of w v h) (IsIn-successors v u pairs k));
    }
