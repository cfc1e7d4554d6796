-- The ground form has as many nodes as are counted.
use Rattle.std.proofs.Common.{◌≡◌, ℕ, ◌+◌, ◌*◌, Bool, true, false, cond, List, [], ◌∷◌, ◌++◌, length, map, sum, refl, ap, ◌∙◌, sym, subst, arith}
use Rattle.std.specs.Prelude.{◌==◌}
use Rattle.std.specs.List.{flat_map}
use Rattle.std.proofs.lemmas.List.{length-append, length-map}
use Rattle.std.proofs.lemmas.List.Sums.{sum_by-cons}
use Rattle.ep_logic.specs.declared.formula.Node.{Node}
use Rattle.ep_logic.specs.declared.formula.Node.TheVariants as node
use Rattle.ep_logic.specs.Nodes.{node_count}
use Rattle.ep_binding.specs.Bindings.{bindings, binding_count, with_first}
use Rattle.ep_tree.specs.declared.tree.ParamTree.{ParamTree}
use Rattle.ep_tree.specs.declared.tree.FormulaTree.{FormulaTree, roll-FormulaTree}
use Rattle.ep_tree.specs.declared.tree.FormulaTree.TheOpen.{FormulaTree-F}
use Rattle.ep_tree.specs.declared.tree.FormulaTree.TheFolds.{map-FormulaTree, ind-FormulaTree}
use Rattle.ep_types.specs.declared.scope.Declared.{Declared}
use Rattle.ep_universe.specs.Objects.{Binding, object_at, candidates, bound}
use Rattle.ep_universe.specs.Formulas.{ground_of, ground_layer, conjunction, disjunction}
use Rattle.ep_universe.specs.Counts.{ground_count, count_layer, repeated}
use Rattle.ep_universe.proofs.NodeLemmas.{count-True, count-False, count-Atom, count-Not, count-And, count-Or, count-Knows, count-Common}
use Rattle.ep_universe.proofs.TreeLemmas.{ground-roll, count-roll}

-- there are as many bindings as the product of the numbers of objects
length_first : (bs : List (List ℕ)) (os : List ℕ) → length (flat_map (with_first bs) os) ≡ length os * length bs
length_first bs [] = omega arith
length_first bs (o ∷ os) =
    length-append (with_first bs o) (flat_map (with_first bs) os)
    ∙ ap (λ n. length (with_first bs o) + n) (length_first bs os)
    ∙ ap (λ n. n + length os * length bs) (length-map bs (λ b. o ∷ b))
    ∙ omega arith

pub length-bindings : (cs : List (List ℕ)) → length (bindings cs) ≡ binding_count cs
length-bindings [] = refl
length-bindings (c ∷ cs) = length_first (bindings cs) c ∙ ap (λ n. length c * n) (length-bindings cs)

sum-cons : (n : ℕ) (ns : List ℕ) → sum (n ∷ ns) ≡ n + sum ns
sum-cons n ns = sum_by-cons (λ k. k) n ns

length-times : {X : Type 0} (x : X) (xs : List X) (n : ℕ) → length (x ∷ xs) * n ≡ n + length xs * n
length-times x xs n = omega arith

module _ {X : Type 0} (g : X → Node) (n : ℕ) (same : (x : X) → node_count (g x) ≡ n) where
  sum-same : (xs : List X) → sum (map node_count (map g xs)) ≡ length xs * n
  sum-same [] = omega arith
  sum-same (x ∷ xs) = sum-cons (node_count (g x)) (map node_count (map g xs)) ∙ (λ i. same x i + sum-same xs i) ∙ sym (length-times x xs n)

  conjunction-same : (xs : List X) → node_count (conjunction (map g xs)) ≡ repeated (length xs) n
  conjunction-same [] = count-True
  conjunction-same (x ∷ []) = same x
  conjunction-same (x ∷ y ∷ xs) = count-And (g x ∷ g y ∷ map g xs) ∙ ap (λ k. k + 1) (sum-same (x ∷ y ∷ xs))

  disjunction-same : (xs : List X) → node_count (disjunction (map g xs)) ≡ repeated (length xs) n
  disjunction-same [] = count-False
  disjunction-same (x ∷ []) = same x
  disjunction-same (x ∷ y ∷ xs) = count-Or (g x ∷ g y ∷ map g xs) ∙ ap (λ k. k + 1) (sum-same (x ∷ y ∷ xs))

module _ (d : Declared) where
  abbrev pub Counted : FormulaTree → Type 0
  Counted f = (b : Binding) → node_count (ground_of d f b) ≡ ground_count d f

  Part : Type 0
  Part = (f : FormulaTree) × Counted f

  parts_counted : (b : Binding) (fs : List ((f : FormulaTree) × Counted f)) →
      map node_count (map (λ f. f b) (map (ground_of d) (map (λ e. e.0) fs))) ≡ map (ground_count d) (map (λ e. e.0) fs)
  parts_counted b [] = refl
  parts_counted b (f ∷ fs) = λ i. f.1 b i ∷ parts_counted b fs i

  repeated_by : (ps : List ParamTree) (n : ℕ) → repeated (length (bindings (candidates d ps))) n ≡ repeated (binding_count (candidates d ps)) n
  repeated_by ps n = ap (λ k. repeated k n) (length-bindings (candidates d ps))

  count_truth : (b : Bool) → node_count (cond b node.True node.False) ≡ 1
  count_truth true = count-True
  count_truth false = count-False

  level : (b : Binding) (y : FormulaTree-F ((f : FormulaTree) × Counted f)) →
      node_count (ground_layer d (map-FormulaTree FormulaTree (Binding → Node) (ground_of d) (map-FormulaTree ((f : FormulaTree) × Counted f) FormulaTree (λ e. e.0) y)) b)
      ≡ count_layer d (map-FormulaTree FormulaTree ℕ (ground_count d) (map-FormulaTree ((f : FormulaTree) × Counted f) FormulaTree (λ e. e.0) y))
  level b (FormulaTree-F.True token) = count-True
  level b (FormulaTree-F.False token) = count-False
  level b (FormulaTree-F.Atom a) = count-Atom _
  level b (FormulaTree-F.Not token f) = count-Not (ground_of d f.0 b) ∙ ap (λ n. n + 1) (f.1 b)
  level b (FormulaTree-F.Knows token x f) = count-Knows _ (ground_of d f.0 b) ∙ ap (λ n. n + 1) (f.1 b)
  level b (FormulaTree-F.Common token g f) = count-Common _ (ground_of d f.0 b) ∙ ap (λ n. n + 1) (f.1 b)
  level b (FormulaTree-F.Forall token ps f) =
      conjunction-same (λ objects. ground_of d f.0 (b ++ bound ps objects)) (ground_count d f.0) (λ objects. f.1 (b ++ bound ps objects)) (bindings (candidates d ps))
      ∙ repeated_by ps (ground_count d f.0)
  level b (FormulaTree-F.Exists token ps f) =
      disjunction-same (λ objects. ground_of d f.0 (b ++ bound ps objects)) (ground_count d f.0) (λ objects. f.1 (b ++ bound ps objects)) (bindings (candidates d ps))
      ∙ repeated_by ps (ground_count d f.0)
  level b (FormulaTree-F.Equal token x y) = count_truth (object_at d b x.text == object_at d b y.text)
  level b (FormulaTree-F.Paren token f) = f.1 b
  level b (FormulaTree-F.And token fs) = count-And _ ∙ ap (λ ns. sum ns + 1) (parts_counted b fs)
  level b (FormulaTree-F.Or token fs) = count-Or _ ∙ ap (λ ns. sum ns + 1) (parts_counted b fs)

  rolled : (x : FormulaTree-F FormulaTree) (y : FormulaTree-F ((f : FormulaTree) × Counted f)) → map-FormulaTree ((f : FormulaTree) × Counted f) FormulaTree (λ e. e.0) y ≡ x → Counted (roll-FormulaTree x)
  rolled x y e = subst (λ (x : FormulaTree-F FormulaTree). Counted (roll-FormulaTree x)) e (λ b.
      ap (λ g. node_count (g b)) (ground-roll d _) ∙ level b y ∙ sym (count-roll d _))

  pub counted : (f : FormulaTree) → Counted f
  counted = ind-FormulaTree Counted rolled
