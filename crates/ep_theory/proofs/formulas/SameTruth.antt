-- Bisimilar worlds satisfy the same formulas.
use Rattle.std.proofs.Common.{◌≡◌, ℕ, Bool, false, slice_index_or, inl, inr, ◌↔◌, List, [], ◌∷◌, map, ap, ◌∙◌, sym, subst, IsTrue}
use Rattle.std.specs.List.{AllByRecursion}
use Rattle.ep_logic.specs.declared.formula.Node.{Node, roll-Node}
use Rattle.ep_logic.specs.declared.formula.Node.TheOpen.{Node-F}
use Rattle.ep_logic.specs.declared.formula.Node.TheFolds.{map-Node, ind-Node}
use Rattle.ep_theory.specs.Rising.{IsIn}
use Rattle.ep_theory.specs.Kripke.{Kripke}
use Rattle.ep_theory.specs.Bisimulation.{IsBisimulation, BisimilarWorlds, Bisimilar}
use Rattle.ep_theory.specs.Walks.{IsWalk, last_of}
use Rattle.ep_theory.specs.Truth.{Truth, truth_step, Either, Satisfies}
use Rattle.ep_theory.proofs.formulas.TruthLemmas.{truth-roll, along}

module _ (z : ℕ → ℕ → Bool) (s r : Kripke) (b : IsBisimulation z s r) where
  -- a walk is answered by a walk to a related world
  walk_forth : (g : List Bool) (w v : ℕ) (ws : List ℕ) → IsTrue (z w v) → IsWalk s g w ws → (vs : List ℕ) × IsWalk r g v vs × IsTrue (z (last_of w ws) (last_of v vs))
  walk_forth g w v [] h p = ([], tt, h)
  walk_forth g w v (x ∷ ws) h p =
      let step = b.forth p.0.0 w v x h p.0.2 in
      let rest = walk_forth g x step.0 ws step.2 p.1 in
      (step.0 ∷ rest.0, ((p.0.0, p.0.1, step.1), rest.1), rest.2)

  walk_back : (g : List Bool) (w v : ℕ) (vs : List ℕ) → IsTrue (z w v) → IsWalk r g v vs → (ws : List ℕ) × IsWalk s g w ws × IsTrue (z (last_of w ws) (last_of v vs))
  walk_back g w v [] h p = ([], tt, h)
  walk_back g w v (y ∷ vs) h p =
      let step = b.back p.0.0 w v y h p.0.2 in
      let rest = walk_back g step.0 y vs step.2 p.1 in
      (step.0 ∷ rest.0, ((p.0.0, p.0.1, step.1), rest.1), rest.2)

  -- related worlds agree on the formula
  abbrev pub Agree : Node → Type 0
  Agree f = (w v : ℕ) → IsTrue (z w v) → Truth s w f ↔ Truth r v f

  each : (w v : ℕ) → IsTrue (z w v) → (fs : List ((f : Node) × Agree f)) → AllByRecursion (Truth s w) (map (λ e. e.0) fs) ↔ AllByRecursion (Truth r v) (map (λ e. e.0) fs)
  each w v h [] = (λ t. t, λ t. t)
  each w v h (f ∷ fs) =
      let one = f.1 w v h in
      let rest = each w v h fs in
      (λ t. (one.0 t.0, rest.0 t.1), λ t. (one.1 t.0, rest.1 t.1))

  either : (w v : ℕ) → IsTrue (z w v) → (fs : List ((f : Node) × Agree f)) → Either (Truth s w) (map (λ e. e.0) fs) ↔ Either (Truth r v) (map (λ e. e.0) fs)
  either w v h [] = (λ t. t, λ t. t)
  either w v h (f ∷ fs) =
      let one = f.1 w v h in
      let rest = either w v h fs in
      (λ t. elim t [ inl x ↦ inl (one.0 x) | inr y ↦ inr (rest.0 y) ], λ t. elim t [ inl x ↦ inl (one.1 x) | inr y ↦ inr (rest.1 y) ])

  -- one level, where the parts agree
  level : (w v : ℕ) → IsTrue (z w v) → (y : Node-F ((f : Node) × Agree f)) →
      truth_step s Node (λ f v. Truth s v f) (map-Node ((f : Node) × Agree f) Node (λ e. e.0) y) w
      ↔ truth_step r Node (λ f v. Truth r v f) (map-Node ((f : Node) × Agree f) Node (λ e. e.0) y) v
  level w v h Node-F.True = (λ t. t, λ t. t)
  level w v h Node-F.False = (λ t. t, λ t. t)
  level w v h (Node-F.Atom p) =
      let e = ap (λ l. slice_index_or l p.n false) (b.truth w v h) in
      (λ t. sym e ∙ t, λ t. e ∙ t)
  level w v h (Node-F.Not f) = let one = f.1 w v h in (λ t q. t (one.1 q), λ t q. t (one.0 q))
  level w v h (Node-F.And fs) = each w v h fs
  level w v h (Node-F.Or fs) = either w v h fs
  level w v h (Node-F.Knows a f) = (
    λ t y q. let x = b.back a.n w v y h q in (f.1 x.0 y x.2).0 (t x.0 x.1),
    λ t x q. let y = b.forth a.n w v x h q in (f.1 x y.0 y.2).1 (t y.0 y.1),
  )
  level w v h (Node-F.Common g f) = (
    λ t vs q. let ws = walk_back g w v vs h q in (f.1 (last_of w ws.0) (last_of v vs) ws.2).0 (t ws.0 ws.1),
    λ t ws q. let vs = walk_forth g w v ws h q in (f.1 (last_of w ws) (last_of v vs.0) vs.2).1 (t vs.0 vs.1),
  )

  rolled : (x : Node-F Node) (y : Node-F ((f : Node) × Agree f)) → map-Node ((f : Node) × Agree f) Node (λ e. e.0) y ≡ x → Agree (roll-Node x)
  rolled x y e = subst (λ (x : Node-F Node). Agree (roll-Node x)) e (λ w v h.
      let step = level w v h y in (
        λ t. along (sym (truth-roll r v _)) (step.0 (along (truth-roll s w _) t)),
        λ t. along (sym (truth-roll s w _)) (step.1 (along (truth-roll r v _) t)),
      ))

  -- worlds that a bisimulation relates satisfy the same formulas
  pub agree : (f : Node) → Agree f
  agree = ind-Node Agree rolled

pub bisimilar_agree : (s : Kripke) (w : ℕ) (r : Kripke) (v : ℕ) → BisimilarWorlds s w r v → (f : Node) → Truth s w f ↔ Truth r v f
bisimilar_agree s w r v b f = agree b.0 s r b.1 f w v b.2

-- a formula is true at all designated worlds of both states or of neither
pub same_at_all : (s r : Kripke) → Bisimilar s r → (f : Node) → Satisfies s f ↔ Satisfies r f
same_at_all s r b f = (
  λ h v i. let w = b.3 v i in (agree b.0 s r b.1 f w.0 v w.2).0 (h w.0 w.1),
  λ h w i. let v = b.2 w i in (agree b.0 s r b.1 f w v.0 v.2).1 (h v.0 v.1),
)

-- and at some of both or of neither
pub same_at_some : (s r : Kripke) → Bisimilar s r → (f : Node) → ((w : ℕ) × IsIn w s.designated × Truth s w f) ↔ ((v : ℕ) × IsIn v r.designated × Truth r v f)
same_at_some s r b f = (
  λ h. let v = b.2 h.0 h.1 in (v.0, v.1, (agree b.0 s r b.1 f h.0 v.0 v.2).0 h.2),
  λ h. let w = b.3 h.0 h.1 in (w.0, w.1, (agree b.0 s r b.1 f w.0 h.0 w.2).1 h.2),
)
