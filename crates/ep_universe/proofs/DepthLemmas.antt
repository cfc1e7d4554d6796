-- The ground form is no deeper than the formula is nested.
use Rattle.std.proofs.Common.{◌≡◌, ℕ, ◌+◌, ◌≤◌, Bool, true, false, cond, List, [], ◌∷◌, ◌++◌, map, ap, subst, arith}
use Rattle.std.specs.Prelude.{◌==◌}
use Rattle.ep_logic.specs.declared.formula.Node.{Node}
use Rattle.ep_logic.specs.declared.formula.Node.TheVariants as node
use Rattle.ep_base.specs.Numbers.{largest}
use Rattle.ep_logic.specs.Nodes.{depth_of}
use Rattle.ep_binding.specs.Bindings.{bindings}
use Rattle.ep_tree.specs.declared.tree.ParamTree.{ParamTree}
use Rattle.ep_tree.specs.declared.tree.FormulaTree.{FormulaTree, roll-FormulaTree}
use Rattle.ep_tree.specs.declared.tree.FormulaTree.TheOpen.{FormulaTree-F}
use Rattle.ep_tree.specs.declared.tree.FormulaTree.TheFolds.{map-FormulaTree, ind-FormulaTree}
use Rattle.ep_types.specs.declared.scope.Declared.{Declared}
use Rattle.ep_universe.specs.Objects.{Binding, object_at, agent_at, group_of, candidates, bound}
use Rattle.ep_universe.specs.Atoms.{atom_at}
use Rattle.ep_universe.specs.Formulas.{ground_of, ground_layer, conjunction, disjunction, instances}
use Rattle.ep_tree.specs.Nesting.{nesting, nesting_layer}
use Rattle.ep_tree.proofs.CallerLemmas.{nesting-roll}
use Rattle.ep_universe.proofs.NodeLemmas.{depth-True, depth-False, depth-Atom, depth-Not, depth-And, depth-Or, depth-Knows, depth-Common}
use Rattle.ep_universe.proofs.TreeLemmas.{ground-roll}

conjunction-shallow : (ns : List Node) → depth_of (conjunction ns) ≤ largest (map depth_of ns) + 1
conjunction-shallow [] = let e = depth-True in omega arith
conjunction-shallow (n ∷ []) = omega arith
conjunction-shallow (n ∷ m ∷ ns) = let e = depth-And (n ∷ m ∷ ns) in omega arith

disjunction-shallow : (ns : List Node) → depth_of (disjunction ns) ≤ largest (map depth_of ns) + 1
disjunction-shallow [] = let e = depth-False in omega arith
disjunction-shallow (n ∷ []) = omega arith
disjunction-shallow (n ∷ m ∷ ns) = let e = depth-Or (n ∷ m ∷ ns) in omega arith

largest-below : {X Y : Type 0} (f : Y → ℕ) (g : X → Y) (n : ℕ) (below : (x : X) → f (g x) ≤ n) (xs : List X) → largest (map f (map g xs)) ≤ n
largest-below f g n below [] = omega arith
largest-below f g n below (x ∷ xs) = let e = largest-below f g n below xs in let h = below x in omega arith

module _ (d : Declared) where
  abbrev pub Shallow : FormulaTree → Type 0
  Shallow f = (b : Binding) → depth_of (ground_of d f b) ≤ nesting f

  parts_shallow : (b : Binding) (fs : List ((f : FormulaTree) × Shallow f)) →
      largest (map depth_of (map (λ f. f b) (map (ground_of d) (map (λ e. e.0) fs)))) ≤ largest (map nesting (map (λ e. e.0) fs))
  parts_shallow b [] = omega arith
  parts_shallow b (f ∷ fs) = let h = f.1 b in let e = parts_shallow b fs in omega arith

  instances_shallow : (b : Binding) (ps : List ParamTree) (f : FormulaTree) → Shallow f → largest (map depth_of (instances d (ground_of d f) b ps)) ≤ nesting f
  instances_shallow b ps f h = largest-below depth_of (λ objects. ground_of d f (b ++ bound ps objects)) (nesting f) (λ objects. h (b ++ bound ps objects)) (bindings (candidates d ps))

  truth_shallow : (b : Bool) → depth_of (cond b node.True node.False) ≤ 1
  truth_shallow true = let e = depth-True in omega arith
  truth_shallow false = let e = depth-False in omega arith

  level : (b : Binding) (y : FormulaTree-F ((f : FormulaTree) × Shallow f)) →
      depth_of (ground_layer d (map-FormulaTree FormulaTree (Binding → Node) (ground_of d) (map-FormulaTree ((f : FormulaTree) × Shallow f) FormulaTree (λ e. e.0) y)) b)
      ≤ nesting_layer (map-FormulaTree FormulaTree ℕ nesting (map-FormulaTree ((f : FormulaTree) × Shallow f) FormulaTree (λ e. e.0) y))
  level b (FormulaTree-F.True token) = let e = depth-True in omega arith
  level b (FormulaTree-F.False token) = let e = depth-False in omega arith
  level b (FormulaTree-F.Atom a) = omega (arith, depth-Atom (record { n = atom_at d b a }))
  level b (FormulaTree-F.Not token f) = omega (arith, depth-Not (ground_of d f.0 b), f.1 b)
  level b (FormulaTree-F.Knows token x f) = omega (arith, depth-Knows (record { n = agent_at d b x }) (ground_of d f.0 b), f.1 b)
  level b (FormulaTree-F.Common token g f) = omega (arith, depth-Common (group_of d b g) (ground_of d f.0 b), f.1 b)
  level b (FormulaTree-F.Forall token ps f) = omega (arith, conjunction-shallow (instances d (ground_of d f.0) b ps), instances_shallow b ps f.0 f.1)
  level b (FormulaTree-F.Exists token ps f) = omega (arith, disjunction-shallow (instances d (ground_of d f.0) b ps), instances_shallow b ps f.0 f.1)
  level b (FormulaTree-F.Equal token x y) = truth_shallow (object_at d b x.text == object_at d b y.text)
  level b (FormulaTree-F.Paren token f) = omega (arith, f.1 b)
  level b (FormulaTree-F.And token fs) = omega (arith, depth-And (map (λ f. f b) (map (ground_of d) (map (λ e. e.0) fs))), parts_shallow b fs)
  level b (FormulaTree-F.Or token fs) = omega (arith, depth-Or (map (λ f. f b) (map (ground_of d) (map (λ e. e.0) fs))), parts_shallow b fs)

  rolled : (x : FormulaTree-F FormulaTree) (y : FormulaTree-F ((f : FormulaTree) × Shallow f)) → map-FormulaTree ((f : FormulaTree) × Shallow f) FormulaTree (λ e. e.0) y ≡ x → Shallow (roll-FormulaTree x)
  rolled x y e = subst (λ (x : FormulaTree-F FormulaTree). Shallow (roll-FormulaTree x)) e (λ b.
      omega (arith, ap (λ g. depth_of (g b)) (ground-roll d (map-FormulaTree ((f : FormulaTree) × Shallow f) FormulaTree (λ e. e.0) y)), level b y, nesting-roll (map-FormulaTree ((f : FormulaTree) × Shallow f) FormulaTree (λ e. e.0) y)))

  pub shallow : (f : FormulaTree) → Shallow f
  shallow = ind-FormulaTree Shallow rolled
