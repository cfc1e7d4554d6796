-- Formulas without knowledge: their truth depends on the truth list of the world alone.
use Rattle.std.proofs.Common.{◌≡◌, ℕ, Bool, true, false, cond, not, ◌&&◌, ◌||◌, List, [], ◌∷◌, ◌++◌, None, map, get_or, refl, ap, ap₂, sym, ◌∙◌, subst, IsTrue}
use Rattle.std.specs.Prelude.{◌==◌}
use Rattle.std.specs.List.{list_all, list_any}
use Rattle.ep_logic.specs.declared.formula.Node.{Node, roll-Node}
use Rattle.ep_logic.specs.declared.formula.Node.TheOpen.{Node-F}
use Rattle.ep_logic.specs.declared.formula.Node.TheVariants as node
use Rattle.ep_logic.specs.declared.formula.Node.TheFolds.{map-Node, ind-Node, fold-Node, fold-roll-Node}
use Rattle.ep_theory.specs.Kripke.{Kripke, truth_of}
use Rattle.ep_theory.specs.Tested.{is_true, test_step}
use Rattle.ep_theory.proofs.CallerLemmas.{and_parts, is_true-roll}
use Rattle.ep_binding.specs.Bindings.{bindings}
use Rattle.ep_tree.specs.declared.tree.ParamTree.{ParamTree}
use Rattle.ep_tree.specs.declared.tree.FormulaTree.{FormulaTree, roll-FormulaTree}
use Rattle.ep_tree.specs.declared.tree.FormulaTree.TheOpen.{FormulaTree-F}
use Rattle.ep_tree.specs.declared.tree.FormulaTree.TheFolds.{map-FormulaTree, fold-roll-FormulaTree, ind-FormulaTree}
use Rattle.ep_types.specs.Faults.{first_fault}
use Rattle.ep_types.specs.Places.{Scope, Uses, objective, with_param, with_params, at, each, Agent, Knowledge}
use Rattle.ep_types.specs.Uses.{param_uses, group_uses, knower_uses, knowers_uses, production, formula_uses}
use Rattle.ep_types.specs.declared.scope.Declared.{Declared}
use Rattle.ep_universe.specs.Atoms.{atom_at}
use Rattle.ep_universe.specs.Formulas.{ground_of, ground_layer, conjunction, disjunction, instances}
use Rattle.ep_universe.specs.Objects.{Binding, object_at, candidates, bound}
use Rattle.ep_universe.proofs.CallerLemmas.{ground-roll, both-none}
use Rattle.ep_initial.specs.Meeting.{meets}

abbrev objective_step : Node-F Bool → Bool
objective_step Node-F.True = true
objective_step Node-F.False = true
objective_step (Node-F.Atom p) = true
objective_step (Node-F.Not f) = f
objective_step (Node-F.And fs) = list_all (λ f. f) fs
objective_step (Node-F.Or fs) = list_all (λ f. f) fs
objective_step (Node-F.Knows a f) = false
objective_step (Node-F.Common g f) = false

-- whether a formula has no knowledge in it
is_objective : Node → Bool
is_objective = fold-Node Bool objective_step

objective-roll : (x : Node-F Node) → is_objective (roll-Node x) ≡ objective_step (map-Node Node Bool is_objective x)
unfolding is_objective
objective-roll x = fold-roll-Node Bool objective_step x

-- ---- truth

module _ (S R : Kripke) (w v : ℕ) (e : truth_of S w ≡ truth_of R v) where
  abbrev Same : Node → Type 0
  Same f = IsTrue (is_objective f) → is_true S w f ≡ is_true R v f

  abbrev parts : List ((f : Node) × Same f) → List Node
  parts fs = map (λ f. f.0) fs

  same_all : (fs : List ((f : Node) × Same f)) → IsTrue (list_all (λ b. b) (map is_objective (parts fs))) →
      list_all {X = ℕ → Bool} (λ t. t w) (map (λ f u. is_true S u f) (parts fs)) ≡ list_all {X = ℕ → Bool} (λ t. t v) (map (λ f u. is_true R u f) (parts fs))
  same_all [] h = refl
  same_all (f ∷ fs) h =
      let p = and_parts (is_objective f.0) (list_all (λ b. b) (map is_objective (parts fs))) h in
      ap₂ (λ a b. a && b) (f.1 p.0) (same_all fs p.1)

  same_any : (fs : List ((f : Node) × Same f)) → IsTrue (list_all (λ b. b) (map is_objective (parts fs))) →
      list_any {X = ℕ → Bool} (λ t. t w) (map (λ f u. is_true S u f) (parts fs)) ≡ list_any {X = ℕ → Bool} (λ t. t v) (map (λ f u. is_true R u f) (parts fs))
  same_any [] h = refl
  same_any (f ∷ fs) h =
      let p = and_parts (is_objective f.0) (list_all (λ b. b) (map is_objective (parts fs))) h in
      ap₂ (λ a b. a || b) (f.1 p.0) (same_any fs p.1)

  level : (y : Node-F ((f : Node) × Same f)) →
      IsTrue (objective_step (map-Node Node Bool is_objective (map-Node ((f : Node) × Same f) Node (λ f. f.0) y))) →
      test_step S (map-Node Node (ℕ → Bool) (λ f u. is_true S u f) (map-Node ((f : Node) × Same f) Node (λ f. f.0) y)) w
      ≡ test_step R (map-Node Node (ℕ → Bool) (λ f u. is_true R u f) (map-Node ((f : Node) × Same f) Node (λ f. f.0) y)) v
  level Node-F.True h = refl
  level Node-F.False h = refl
  level (Node-F.Atom p) h = ap (λ t. get_or t p.n false) e
  level (Node-F.Not f) h = ap not (f.1 h)
  level (Node-F.And fs) h = same_all fs h
  level (Node-F.Or fs) h = same_any fs h
  level (Node-F.Knows a f) h = absurd (cc)
  level (Node-F.Common g f) h = absurd (cc)

  rolled : (x : Node-F Node) (y : Node-F ((f : Node) × Same f)) → map-Node ((f : Node) × Same f) Node (λ f. f.0) y ≡ x → Same (roll-Node x)
  rolled x y q = subst (λ (x : Node-F Node). Same (roll-Node x)) q (λ h.
      is_true-roll S w _ ∙ level y (sym (objective-roll _) ∙ h) ∙ sym (is_true-roll R v _))

  same : (f : Node) → Same f
  same = ind-Node Same rolled

-- ---- typing

objective-True : is_objective node.True ≡ true
objective-True = ap is_objective (sym node.rolls-True) ∙ objective-roll Node-F.True

objective-False : is_objective node.False ≡ true
objective-False = ap is_objective (sym node.rolls-False) ∙ objective-roll Node-F.False

same_map : (fs : List Node) → list_all (λ b. b) (map is_objective fs) ≡ list_all is_objective fs
same_map [] = refl
same_map (f ∷ fs) = ap (λ b. is_objective f && b) (same_map fs)

objective-And : (fs : List Node) → is_objective (node.And fs) ≡ list_all is_objective fs
objective-And fs = ap is_objective (sym (node.rolls-And fs)) ∙ objective-roll (Node-F.And fs) ∙ same_map fs

objective-Or : (fs : List Node) → is_objective (node.Or fs) ≡ list_all is_objective fs
objective-Or fs = ap is_objective (sym (node.rolls-Or fs)) ∙ objective-roll (Node-F.Or fs) ∙ same_map fs

and_true : (b : Bool) → (b && true) ≡ b
and_true true = refl
and_true false = refl

objective-conjunction : (fs : List Node) → list_all is_objective fs ≡ true → is_objective (conjunction fs) ≡ true
objective-conjunction [] h = objective-True
objective-conjunction (f ∷ []) h = sym (and_true (is_objective f)) ∙ h
objective-conjunction (f ∷ g ∷ fs) h = objective-And (f ∷ g ∷ fs) ∙ h

objective-disjunction : (fs : List Node) → list_all is_objective fs ≡ true → is_objective (disjunction fs) ≡ true
objective-disjunction [] h = objective-False
objective-disjunction (f ∷ []) h = sym (and_true (is_objective f)) ∙ h
objective-disjunction (f ∷ g ∷ fs) h = objective-Or (f ∷ g ∷ fs) ∙ h

objective_truth : (b : Bool) → is_objective (cond b node.True node.False) ≡ true
objective_truth true = objective-True
objective_truth false = objective-False

no_knowledge : (P : Type 0) (t : ℕ) (k : Bool) → k ≡ false → first_fault (at t (Knowledge k)) ≡ None → P
no_knowledge P t true e h = absurd (cc)
no_knowledge P t false e h = absurd (cc)

knowledge_kept : (s : Scope) (qs : List ParamTree) → (with_params s qs).knowledge ≡ s.knowledge
knowledge_kept s [] = refl
knowledge_kept s (q ∷ qs) = knowledge_kept (with_param s q) qs

each_map : (g : List ℕ → Node) (xs : List (List ℕ)) → ((x : List ℕ) → is_objective (g x) ≡ true) → list_all is_objective (map g xs) ≡ true
each_map g [] h = refl
each_map g (x ∷ xs) h = ap₂ (λ a b. a && b) (h x) (each_map g xs h)

module _ (d : Declared) where
  abbrev Plain : FormulaTree → Type 0
  Plain f = (s : Scope) (b : Binding) → s.knowledge ≡ false → first_fault (formula_uses f s) ≡ None → is_objective (ground_of d f b) ≡ true

  plain_instances : (s : Scope) (b : Binding) → s.knowledge ≡ false → (qs : List ParamTree) (f : FormulaTree) → Plain f →
      first_fault (formula_uses f (with_params s qs)) ≡ None → list_all is_objective (instances d (ground_of d f) b qs) ≡ true
  plain_instances s b k qs f plain h =
      each_map (λ objects. ground_of d f (b ++ bound qs objects)) (bindings (candidates d qs))
      (λ os. plain (with_params s qs) (b ++ bound qs os) (knowledge_kept s qs ∙ k) h)

  plain_parts : (s : Scope) (b : Binding) → s.knowledge ≡ false → (fs : List ((f : FormulaTree) × Plain f)) →
      first_fault (each (λ part. part s) (map formula_uses (map (λ f. f.0) fs))) ≡ None →
      list_all is_objective (map (λ f. f b) (map (ground_of d) (map (λ f. f.0) fs))) ≡ true
  plain_parts s b k [] h = refl
  plain_parts s b k (f ∷ fs) h =
      let parts = both-none (formula_uses f.0 s) (each (λ part. part s) (map formula_uses (map (λ f. f.0) fs))) h in
      ap₂ (λ x y. x && y) (f.1 s b k parts.0) (plain_parts s b k fs parts.1)

  plain_level : (s : Scope) (b : Binding) → s.knowledge ≡ false → (y : FormulaTree-F ((f : FormulaTree) × Plain f)) →
      first_fault (production (map-FormulaTree FormulaTree (Scope → Uses) formula_uses (map-FormulaTree ((f : FormulaTree) × Plain f) FormulaTree (λ f. f.0) y)) s) ≡ None →
      is_objective (ground_layer d (map-FormulaTree FormulaTree (Binding → Node) (ground_of d) (map-FormulaTree ((f : FormulaTree) × Plain f) FormulaTree (λ f. f.0) y)) b) ≡ true
  plain_level s b k (FormulaTree-F.True token) h = objective-True
  plain_level s b k (FormulaTree-F.False token) h = objective-False
  plain_level s b k (FormulaTree-F.Atom a) h = ap is_objective (sym (node.rolls-Atom (record { n = atom_at d b a }))) ∙ objective-roll (Node-F.Atom (record { n = atom_at d b a }))
  plain_level s b k (FormulaTree-F.Not token f) h = ap is_objective (sym (node.rolls-Not (ground_of d f.0 b))) ∙ objective-roll (Node-F.Not (ground_of d f.0 b)) ∙ f.1 s b k h
  plain_level s b k (FormulaTree-F.Knows token x f) h =
      let parts = both-none (knower_uses token x s) (formula_uses f.0 s) h in
      let knower = both-none (at token (Knowledge s.knowledge)) (at x.token (Agent x.text s)) parts.0 in
      no_knowledge _ token s.knowledge k knower.0
  plain_level s b k (FormulaTree-F.Common token g f) h =
      let parts = both-none (knowers_uses token g s) (formula_uses f.0 s) h in
      let knowers = both-none (at token (Knowledge s.knowledge)) (group_uses g s) parts.0 in
      no_knowledge _ token s.knowledge k knowers.0
  plain_level s b k (FormulaTree-F.Forall token qs f) h =
      let parts = both-none (param_uses 0 qs s) (formula_uses f.0 (with_params s qs)) h in
      objective-conjunction (instances d (ground_of d f.0) b qs) (plain_instances s b k qs f.0 f.1 parts.1)
  plain_level s b k (FormulaTree-F.Exists token qs f) h =
      let parts = both-none (param_uses 0 qs s) (formula_uses f.0 (with_params s qs)) h in
      objective-disjunction (instances d (ground_of d f.0) b qs) (plain_instances s b k qs f.0 f.1 parts.1)
  plain_level s b k (FormulaTree-F.Equal token x y) h = objective_truth (object_at d b x.text == object_at d b y.text)
  plain_level s b k (FormulaTree-F.Paren token f) h = f.1 s b k h
  plain_level s b k (FormulaTree-F.And token fs) h = objective-And (map (λ f. f b) (map (ground_of d) (map (λ f. f.0) fs))) ∙ plain_parts s b k fs h
  plain_level s b k (FormulaTree-F.Or token fs) h = objective-Or (map (λ f. f b) (map (ground_of d) (map (λ f. f.0) fs))) ∙ plain_parts s b k fs h

  plain_rolled : (x : FormulaTree-F FormulaTree) (y : FormulaTree-F ((f : FormulaTree) × Plain f)) → map-FormulaTree ((f : FormulaTree) × Plain f) FormulaTree (λ f. f.0) y ≡ x → Plain (roll-FormulaTree x)
  plain_rolled x y e = subst (λ (x : FormulaTree-F FormulaTree). Plain (roll-FormulaTree x)) e (λ s b k h.
      ap (λ g. is_objective (g b)) (ground-roll d _)
      ∙ plain_level s b k y (sym (ap (λ u. first_fault (u s)) (fold-roll-FormulaTree (Scope → Uses) production (map-FormulaTree ((f : FormulaTree) × Plain f) FormulaTree (λ f. f.0) y))) ∙ h))

  plain : (f : FormulaTree) → Plain f
  plain = ind-FormulaTree Plain plain_rolled

pub meeting : (d : Declared) (f : FormulaTree) → first_fault (formula_uses f (objective d)) ≡ None → (S : Kripke) (w : ℕ) → is_true S w (ground_of d f []) ≡ meets d f (truth_of S w)
meeting d f h S w = same S _ w 0 refl (ground_of d f []) (plain d f (objective d) [] refl h)
