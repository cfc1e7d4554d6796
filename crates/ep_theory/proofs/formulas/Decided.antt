-- `is_true` decides `Truth`.
use Rattle.std.proofs.Common.{◌≡◌, ℕ, ◌<◌, Bool, inl, inr, ◌↔◌, List, [], ◌∷◌, map, refl, ◌∙◌, sym, subst, IsTrue}
use Rattle.std.specs.List.{AllByRecursion, list_all, list_any}
use Rattle.std.specs.Cmp.{both_ways}
use Rattle.ep_logic.specs.declared.formula.Node.{Node, roll-Node}
use Rattle.ep_logic.specs.declared.formula.Node.TheOpen.{Node-F}
use Rattle.ep_logic.specs.declared.formula.Node.TheFolds.{map-Node, ind-Node, fold-roll-Node}
use Rattle.ep_theory.specs.Kripke.{Kripke, IsState, links_of, successors}
use Rattle.ep_theory.specs.Walks.{IsWalk, last_of}
use Rattle.ep_theory.specs.Truth.{Truth, truth_step, Either}
use Rattle.ep_theory.specs.Tested.{is_true, test_step}
use Rattle.ep_theory.specs.Bisimulation.{BisimilarWorlds}
use Rattle.ep_theory.proofs.lists.Bools.{and_parts, and_whole, or_parts, or_left, or_right, not_true, from_not, all_at, to_all}
use Rattle.ep_theory.proofs.lists.Lists.{from_successors, IsIn-successors}
use Rattle.ep_theory.proofs.states.Unique.{links_within}
use Rattle.ep_theory.proofs.formulas.WithinSteps.{within_from_walks, walks_from_within}
use Rattle.ep_theory.proofs.formulas.TruthLemmas.{truth-roll, along}
use Rattle.ep_theory.proofs.formulas.SameTruth.{agree}

-- one level
pub is_true-roll : (S : Kripke) (w : ℕ) (x : Node-F Node) → is_true S w (roll-Node x) ≡ test_step S (map-Node Node (ℕ → Bool) (λ f v. is_true S v f) x) w
unfolding is_true
is_true-roll S w x = λ i. fold-roll-Node (ℕ → Bool) (test_step S) x i w

module _ (S : Kripke) (s : IsState S) where
  walk_within : (g : List Bool) (w : ℕ) (vs : List ℕ) → w < S.worlds → IsWalk S g w vs → last_of w vs < S.worlds
  walk_within g w [] l p = l
  walk_within g w (v ∷ vs) l p = walk_within g v vs (links_within S s p.0.0 w v p.0.2).1 p.1

  abbrev pub Decided : Node → Type 0
  Decided f = (w : ℕ) → w < S.worlds → IsTrue (is_true S w f) ↔ Truth S w f

  each : (w : ℕ) → w < S.worlds → (fs : List ((f : Node) × Decided f)) →
      IsTrue (list_all {X = ℕ → Bool} (λ t. t w) (map (λ f v. is_true S v f) (map (λ e. e.0) fs))) ↔ AllByRecursion (Truth S w) (map (λ e. e.0) fs)
  each w l [] = (λ t. tt, λ t. refl)
  each w l (f ∷ fs) =
      let one = f.1 w l in
      let rest = each w l fs in (
        λ t. let p = and_parts (is_true S w f.0) (list_all {X = ℕ → Bool} (λ t. t w) (map (λ f v. is_true S v f) (map (λ e. e.0) fs))) t in (one.0 p.0, rest.0 p.1),
        λ t. and_whole (is_true S w f.0) (list_all {X = ℕ → Bool} (λ t. t w) (map (λ f v. is_true S v f) (map (λ e. e.0) fs))) (one.1 t.0) (rest.1 t.1),
      )

  either : (w : ℕ) → w < S.worlds → (fs : List ((f : Node) × Decided f)) →
      IsTrue (list_any {X = ℕ → Bool} (λ t. t w) (map (λ f v. is_true S v f) (map (λ e. e.0) fs))) ↔ Either (Truth S w) (map (λ e. e.0) fs)
  either w l [] = (λ t. cc, λ t. absurd t)
  either w l (f ∷ fs) =
      let one = f.1 w l in
      let rest = either w l fs in (
        λ t. elim (or_parts (is_true S w f.0) (list_any {X = ℕ → Bool} (λ t. t w) (map (λ f v. is_true S v f) (map (λ e. e.0) fs))) t) [ inl p ↦ inl (one.0 p) | inr q ↦ inr (rest.0 q) ],
        λ t. elim t [ inl p ↦ or_left (is_true S w f.0) _ (one.1 p) | inr q ↦ or_right (is_true S w f.0) _ (rest.1 q) ],
      )

  -- one level, where the parts are decided
  level : (w : ℕ) → w < S.worlds → (y : Node-F ((f : Node) × Decided f)) →
      IsTrue (test_step S (map-Node Node (ℕ → Bool) (λ f v. is_true S v f) (map-Node ((f : Node) × Decided f) Node (λ e. e.0) y)) w)
      ↔ truth_step S Node (λ f v. Truth S v f) (map-Node ((f : Node) × Decided f) Node (λ e. e.0) y) w
  level w l Node-F.True = (λ t. tt, λ t. refl)
  level w l Node-F.False = (λ t. cc, λ t. absurd t)
  level w l (Node-F.Atom p) = (λ t. t, λ t. t)
  level w l (Node-F.Not f) = let one = f.1 w l in (λ t q. from_not (is_true S w f.0) t (one.1 q), λ t. not_true (is_true S w f.0) (λ q. t (one.0 q)))
  level w l (Node-F.And fs) = each w l fs
  level w l (Node-F.Or fs) = either w l fs
  level w l (Node-F.Knows a f) = (
    λ t v i. (f.1 v (links_within S s a.n w v i).1).0 (all_at (λ v. is_true S v f.0) v (successors (links_of S a.n) w) t (IsIn-successors w v (links_of S a.n) i)),
    λ t. to_all (λ v. is_true S v f.0) (successors (links_of S a.n) w) (λ v i.
        let j = from_successors w v (links_of S a.n) i in
        (f.1 v (links_within S s a.n w v j).1).1 (t v j)),
  )
  level w l (Node-F.Common g f) = (
    λ t vs q. (f.1 (last_of w vs) (walk_within g w vs l q)).0 (walks_from_within S g (λ v. is_true S v f.0) s w l t vs q),
    λ t. within_from_walks S g (λ v. is_true S v f.0) S.worlds w (λ vs q. (f.1 (last_of w vs) (walk_within g w vs l q)).1 (t vs q)),
  )

  rolled : (x : Node-F Node) (y : Node-F ((f : Node) × Decided f)) → map-Node ((f : Node) × Decided f) Node (λ e. e.0) y ≡ x → Decided (roll-Node x)
  rolled x y e = subst (λ (x : Node-F Node). Decided (roll-Node x)) e (λ w l.
      let step = level w l y in (
        λ t. along (sym (truth-roll S w _)) (step.0 (sym (is_true-roll S w _) ∙ t)),
        λ t. is_true-roll S w _ ∙ step.1 (along (truth-roll S w _) t),
      ))

  -- the test decides truth
  pub decided : (f : Node) → Decided f
  decided = ind-Node Decided rolled

pub is_true_decides : (S : Kripke) → IsState S → (w : ℕ) → w < S.worlds → (f : Node) → IsTrue (is_true S w f) ↔ Truth S w f
is_true_decides S s w l f = decided S s f w l

-- the test answers the same at bisimilar worlds
pub same_test : (S R : Kripke) → IsState S → IsState R → (w v : ℕ) → BisimilarWorlds S w R v → (f : Node) → is_true S w f ≡ is_true R v f
same_test S R s r w v b f =
    let l = b.1.within w v b.2 in
    let a = agree b.0 S R b.1 f w v b.2 in
    both_ways (is_true S w f) (is_true R v f)
    (λ t. (decided R r f v l.1).1 (a.0 ((decided S s f w l.0).0 t)))
    (λ t. (decided S s f w l.0).1 (a.1 ((decided R r f v l.1).0 t)))
