-- The quotient of the union of two states by bisimilarity.
use Rattle.std.proofs.Common.{◌≡◌, ℕ, ◌<◌, ◌≤◌, ◌+◌, ◌-◌, ◌⊎◌, inl, inr, ⊎_elim, ◌↔◌, Bool, true, ◌&&◌, ◌==◌, refl, sym, ap, subst, ◌∙◌, arith, IsTrue, nat_lt}
use Rattle.ep_theory.specs.Rising.{IsIn}
use Rattle.ep_theory.specs.Kripke.{Kripke, IsState, links_of, truth_of}
use Rattle.ep_theory.specs.Bisimulation.{IsBisimulation, BisimilarWorlds}
use Rattle.ep_theory.specs.Image.{IsImage}
use Rattle.ep_theory.proofs.CallerLemmas.{and_parts, and_whole, equal_from_test, links_within, test_itself}
use Rattle.ep_apart.proofs.TheoryLemmas.{graph, image_bisimulation, less_from_test, test_from_less, to_graph, worlds_sym, worlds_trans}
use Rattle.ep_apart.specs.Joint.{IsJoint}
use Rattle.ep_apart.specs.Union.{IsPart}

-- each world of a part is bisimilar to itself in the whole
module _ (S U : Kripke) (s : IsState S) (k : ℕ) (p : IsPart S U k) where
  abbrev moved : ℕ → ℕ → Bool
  moved w x = nat_lt w S.worlds && (k + w == x)

  to_moved : (w x : ℕ) → w < S.worlds → k + w ≡ x → IsTrue (moved w x)
  to_moved w x b e = and_whole (nat_lt w S.worlds) (k + w == x) (test_from_less w S.worlds b) (subst (λ z. IsTrue (k + w == z)) e (test_itself (k + w)))

  from_moved : (w x : ℕ) → IsTrue (moved w x) → (w < S.worlds) × (k + w ≡ x)
  from_moved w x h = let t = and_parts (nat_lt w S.worlds) (k + w == x) h in (less_from_test w S.worlds t.0, equal_from_test (k + w) x t.1)

  moved_bisimulation : IsBisimulation moved S U
  moved_bisimulation = record {
    agents = p.agents;
    atoms = p.atoms;
    within = λ w x h. let t = from_moved w x h in (t.0, subst (λ z. z < U.worlds) t.1 (p.within w t.0));
    truth = λ w x h. let t = from_moved w x h in p.truth w t.0 ∙ ap (truth_of U) t.1;
    forth = λ a w x u h i. let t = from_moved w x h in
        (k + u, subst (λ z. IsIn (z, k + u) (links_of U a)) t.1 (p.forth a w u i), to_moved u (k + u) (links_within S s a w u i).1 refl);
    back = λ a w x y h i. let t = from_moved w x h in
        let v = p.back a w y t.0 (subst (λ z. IsIn (z, y) (links_of U a)) (sym t.1) i) in
        (v.0, v.1, to_moved v.0 y (links_within S s a w v.0 v.1).1 (sym v.2));
  }

  pub part_bisimilar : (w : ℕ) → w < S.worlds → BisimilarWorlds S w U (k + w)
  part_bisimilar w b = (moved, moved_bisimulation, to_moved w (k + w) b refl)

module _ (U Q : Kripke) (number : ℕ → ℕ) (u : IsState U) (q : IsState Q) (m : IsImage U (λ _. true) number Q)
    (same : (w v : ℕ) → w < U.worlds → v < U.worlds → (number w ≡ number v) ↔ BisimilarWorlds U w U v) where
  answers : (a w v x : ℕ) → v < U.worlds → IsTrue true → IsTrue true → number w ≡ number v → IsIn (w, x) (links_of U a) → (y : ℕ) × IsIn (v, y) (links_of U a) × (number x ≡ number y)
  answers a w v x b _ _ e i =
      let r = links_within U u a w x i in
      let z = (same w v r.0 b).0 e in
      let y = z.1.forth a w v x z.2 i in
      (y.0, y.1, (same x y.0 r.1 (links_within U u a v y.0 y.1).1).1 (z.0, z.1, y.2))

  pub class_bisimilar : (w : ℕ) → w < U.worlds → BisimilarWorlds U w Q (number w)
  class_bisimilar w b = (
    graph U Q (λ _. true) number u q m (λ _ _ _ _ _. refl) (λ _ _. refl) answers,
    image_bisimulation U Q (λ _. true) number u q m (λ _ _ _ _ _. refl) (λ _ _. refl) answers,
    to_graph U Q (λ _. true) number u q m (λ _ _ _ _ _. refl) (λ _ _. refl) answers w b refl,
  )

  pub classes_apart : (c d : ℕ) → c < Q.worlds → d < Q.worlds → BisimilarWorlds Q c Q d → c ≡ d
  classes_apart c d a b z =
      let w = m.onto c a in
      let v = m.onto d b in
      let x : BisimilarWorlds U w.0 Q c = subst (BisimilarWorlds U w.0 Q) w.3 (class_bisimilar w.0 w.1) in
      let y : BisimilarWorlds U v.0 Q d = subst (BisimilarWorlds U v.0 Q) v.3 (class_bisimilar v.0 v.1) in
      let t = worlds_trans U Q U w.0 c v.0 x (worlds_trans Q Q U c d v.0 z (worlds_sym U Q v.0 d y)) in
      sym w.3 ∙ (same w.0 v.0 w.1 v.1).1 t ∙ v.3

pub joint_of : (S T U Q : Kripke) (number : ℕ → ℕ) → IsState S → IsState T → IsState U → IsState Q → IsPart S U 0 → IsPart T U S.worlds → U.worlds ≡ S.worlds + T.worlds → IsImage U (λ _. true) number Q →
    ((w v : ℕ) → w < U.worlds → v < U.worlds → (number w ≡ number v) ↔ BisimilarWorlds U w U v) → IsJoint S T Q (λ w. number (0 + w)) (λ v. number (S.worlds + v))
joint_of S T U Q number s t u q p r n m same = record {
  valid = q;
  first = λ w b. worlds_trans S U Q w (0 + w) (number (0 + w)) (part_bisimilar S U s 0 p w b) (class_bisimilar U Q number u q m same (0 + w) (p.within w b));
  second = λ v b. worlds_trans T U Q v (S.worlds + v) (number (S.worlds + v)) (part_bisimilar T U t S.worlds r v b) (class_bisimilar U Q number u q m same (S.worlds + v) (r.within v b));
  apart = classes_apart U Q number u q m same;
  onto = λ c b. let x = m.onto c b in ⊎_elim
      (λ (l : x.0 < S.worlds). inl (x.0, l, (let e : 0 + x.0 ≡ x.0 = omega arith in ap number e) ∙ x.3))
      (λ (l : S.worlds ≤ x.0). inr (x.0 - S.worlds, (let y = x.1 in omega arith), (let e : S.worlds + (x.0 - S.worlds) ≡ x.0 = omega arith in ap number e) ∙ x.3))
      (lt_or_le x.0 S.worlds);
}
  where
    lt_or_le : (m n : ℕ) → (m < n) ⊎ (n ≤ m)
    lt_or_le m n = grind arith
