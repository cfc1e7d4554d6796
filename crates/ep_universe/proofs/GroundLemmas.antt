-- What makes the parts of a formula buildable, and its ground form makeable.
use Rattle.std.proofs.Common.{◌≡◌, ℕ, zero, suc, ◌+◌, ◌*◌, ◌<◌, ◌≤◌, Bool, true, false, ◌&&◌, nat_le, IsTrue, Result, Ok, Err, IfOk, List, [], ◌∷◌, ◌++◌, length, map, sum, refl, ◌∙◌, sym, subst, arith}
use Rattle.std.specs.List.{list_all}
use Rattle.std.proofs.lemmas.List.{length-map}
use Rattle.std.proofs.lemmas.Bool.Decides.{nat_tests}
use Rattle.std.proofs.lemmas.List.Sums.{sum_by-cons}
use Rattle.std.proofs.lemmas.List.Elements.{All-nil, All-cons}
use Rattle.std.proofs.Math.Nat.{mul-le-mul_left, mul-le-mul_right}
use Rattle.ep_logic.specs.declared.formula.Node.{Node}
use Rattle.ep_logic.specs.declared.formula.Node.TheVariants as node
use Rattle.ep_base.specs.Numbers.{largest}
use Rattle.ep_binding.specs.Bindings.{bindings, binding_count}
use Rattle.ep_tree.specs.declared.tree.Name.{Name}
use Rattle.ep_tree.specs.declared.tree.GroupTree.{GroupTree}
use Rattle.ep_tree.specs.declared.tree.ParamTree.{ParamTree}
use Rattle.ep_tree.specs.declared.tree.FormulaTree.{FormulaTree, roll-FormulaTree}
use Rattle.ep_tree.specs.declared.tree.FormulaTree.TheOpen.{FormulaTree-F}
use Rattle.ep_tree.specs.declared.tree.FormulaTree.TheVariants as tree
use Rattle.ep_tree.specs.declared.tree.FormulaTree.TheFolds.{map-FormulaTree, ind-FormulaTree}
use Rattle.ep_types.specs.declared.scope.Declared.{Declared}
use Rattle.ep_universe.specs.Objects.{Binding, agent_at, group_of, candidates, bound}
use Rattle.ep_universe.specs.Formulas.{ground_of, conjunction, disjunction, instances}
use Rattle.ep_universe.specs.Counts.{ground_count, count_layer, repeated}
use Rattle.ep_tree.specs.Nesting.{nesting}
use Rattle.ep_universe.specs.Sizes.{is_whole, has_member, IsBuildable, AreBuildable, IsRepeatable, IsMakeable}
use Rattle.ep_universe.proofs.CountLemmas.{counted, length-bindings}
use Rattle.ep_universe.proofs.DepthLemmas.{shallow}
use Rattle.ep_universe.proofs.TreeLemmas.{count-roll, count-Not, count-Knows, count-Common, count-Forall, count-Exists, count-Paren, count-And, count-Or, nesting-Not, nesting-Knows, nesting-Common, nesting-Forall, nesting-Exists, nesting-Paren, nesting-And, nesting-Or, whole-Not, whole-Knows, whole-Common, whole-Forall, whole-Exists, whole-Paren, whole-And, whole-Or, ground-Not, ground-Knows, ground-Common, ground-Forall, ground-Exists, ground-And, ground-Or}

-- ---- both of two tests

pub left : (a b : Bool) → IsTrue (a && b) → IsTrue a
left true b h = refl
left false b h = h

pub right : (a b : Bool) → IsTrue (a && b) → IsTrue b
right true b h = h
right false b h = absurd (cc)

-- ---- a ground form has a node

repeated-positive : (k n : ℕ) → 1 ≤ n → 1 ≤ repeated k n
repeated-positive zero n h = omega arith
repeated-positive (suc zero) n h = h
repeated-positive (suc (suc k)) n h = omega arith

module _ (d : Declared) where
  abbrev Positive : FormulaTree → Type 0
  Positive f = 1 ≤ ground_count d f

  positive-level : (y : FormulaTree-F ((f : FormulaTree) × Positive f)) → 1 ≤ count_layer d (map-FormulaTree FormulaTree ℕ (ground_count d) (map-FormulaTree ((f : FormulaTree) × Positive f) FormulaTree (λ e. e.0) y))
  positive-level (FormulaTree-F.True token) = omega arith
  positive-level (FormulaTree-F.False token) = omega arith
  positive-level (FormulaTree-F.Atom a) = omega arith
  positive-level (FormulaTree-F.Not token f) = omega arith
  positive-level (FormulaTree-F.Knows token x f) = omega arith
  positive-level (FormulaTree-F.Common token g f) = omega arith
  positive-level (FormulaTree-F.Forall token ps f) = repeated-positive (binding_count (candidates d ps)) (ground_count d f.0) f.1
  positive-level (FormulaTree-F.Exists token ps f) = repeated-positive (binding_count (candidates d ps)) (ground_count d f.0) f.1
  positive-level (FormulaTree-F.Equal token x y) = omega arith
  positive-level (FormulaTree-F.Paren token f) = f.1
  positive-level (FormulaTree-F.And token fs) = omega arith
  positive-level (FormulaTree-F.Or token fs) = omega arith

  positive-rolled : (x : FormulaTree-F FormulaTree) (y : FormulaTree-F ((f : FormulaTree) × Positive f)) → map-FormulaTree ((f : FormulaTree) × Positive f) FormulaTree (λ e. e.0) y ≡ x → Positive (roll-FormulaTree x)
  positive-rolled x y e = subst (λ (x : FormulaTree-F FormulaTree). Positive (roll-FormulaTree x)) e
      (let P : ℕ → Type 0 = λ n. 1 ≤ n in subst P (sym (count-roll d (map-FormulaTree ((f : FormulaTree) × Positive f) FormulaTree (λ e. e.0) y))) (positive-level y))

  pub positive : (f : FormulaTree) → 1 ≤ ground_count d f
  positive = ind-FormulaTree Positive positive-rolled

-- ---- the parts of a buildable formula

repeated-least : (k n : ℕ) → 1 ≤ k → n ≤ repeated k n
repeated-least zero n h = absurd (omega arith)
repeated-least (suc zero) n h = omega arith
repeated-least (suc (suc k)) n h = let p : 1 * n ≤ suc (suc k) * n = mul-le-mul_right n (omega arith) in omega arith

-- as many as the instances
repeated-many : (k n : ℕ) → 1 ≤ n → k ≤ repeated k n
repeated-many zero n h = omega arith
repeated-many (suc zero) n h = omega arith
repeated-many (suc (suc k)) n h = let p : suc (suc k) * 1 ≤ suc (suc k) * n = mul-le-mul_left (suc (suc k)) h in omega arith

module _ (d : Declared) where
  pub small-Not : (t : ℕ) (f : FormulaTree) → IsBuildable d (tree.Not t f) → IsBuildable d f
  small-Not t f s = record { whole = subst IsTrue (whole-Not t f) s.whole; nodes = omega (arith, count-Not d t f, s.nodes); nested = omega (arith, nesting-Not t f, s.nested) }

  pub small-Knows : (t : ℕ) (x : Name) (f : FormulaTree) → IsBuildable d (tree.Knows t x f) → IsBuildable d f
  small-Knows t x f s = record { whole = subst IsTrue (whole-Knows t x f) s.whole; nodes = omega (arith, count-Knows d t x f, s.nodes); nested = omega (arith, nesting-Knows t x f, s.nested) }

  pub small-Common : (t : ℕ) (g : GroupTree) (f : FormulaTree) → IsBuildable d (tree.Common t g f) → IsBuildable d f
  small-Common t g f s = record { whole = right (has_member g) (is_whole f) (subst IsTrue (whole-Common t g f) s.whole); nodes = omega (arith, count-Common d t g f, s.nodes); nested = omega (arith, nesting-Common t g f, s.nested) }

  pub some-member : (t : ℕ) (g : GroupTree) (f : FormulaTree) → IsBuildable d (tree.Common t g f) → IsTrue (has_member g)
  some-member t g f s = left (has_member g) (is_whole f) (subst IsTrue (whole-Common t g f) s.whole)

  pub small-Paren : (t : ℕ) (f : FormulaTree) → IsBuildable d (tree.Paren t f) → IsBuildable d f
  small-Paren t f s = record { whole = subst IsTrue (whole-Paren t f) s.whole; nodes = omega (arith, count-Paren d t f, s.nodes); nested = omega (arith, nesting-Paren t f, s.nested) }

  pub small-Forall : (t : ℕ) (ps : List ParamTree) (f : FormulaTree) → IsBuildable d (tree.Forall t ps f) → IsRepeatable d ps f
  small-Forall t ps f s = record { whole = subst IsTrue (whole-Forall t ps f) s.whole; nodes = omega (arith, count-Forall d t ps f, s.nodes); nested = omega (arith, nesting-Forall t ps f, s.nested) }

  pub small-Exists : (t : ℕ) (ps : List ParamTree) (f : FormulaTree) → IsBuildable d (tree.Exists t ps f) → IsRepeatable d ps f
  small-Exists t ps f s = record { whole = subst IsTrue (whole-Exists t ps f) s.whole; nodes = omega (arith, count-Exists d t ps f, s.nodes); nested = omega (arith, nesting-Exists t ps f, s.nested) }

  pub small-instance : (ps : List ParamTree) (f : FormulaTree) (i : ℕ) → IsRepeatable d ps f → i < length (bindings (candidates d ps)) → IsBuildable d f
  small-instance ps f i s h = record {
    whole = s.whole;
    nodes = let some = length-bindings (candidates d ps) in omega (arith, repeated-least (binding_count (candidates d ps)) (ground_count d f) (omega (arith, some)), s.nodes);
    nested = omega (arith, s.nested);
  }

  all_below : (fs : List FormulaTree) (n m : ℕ) → sum (map (ground_count d) fs) ≤ n → largest (map nesting fs) ≤ m → IsTrue (list_all (λ b. b) (map is_whole fs)) → n ≤ 65536 → m ≤ 64 → AreBuildable d fs
  all_below [] n m h k w p q = All-nil (IsBuildable d)
  all_below (f ∷ fs) n m h k w p q =
      let e : sum (map (ground_count d) (f ∷ fs)) ≡ ground_count d f + sum (map (ground_count d) fs) = sum_by-cons (λ k. k) (ground_count d f) (map (ground_count d) fs) in
      All-cons (IsBuildable d) f fs
      (record { whole = left (is_whole f) (list_all (λ b. b) (map is_whole fs)) w; nodes = omega arith; nested = omega arith })
      (all_below fs n m (omega arith) (omega arith) (right (is_whole f) (list_all (λ b. b) (map is_whole fs)) w) p q)

  pub small-And : (t : ℕ) (fs : List FormulaTree) → IsBuildable d (tree.And t fs) → AreBuildable d fs
  small-And t fs s =
      all_below fs 65536 64 (omega (arith, count-And d t fs, s.nodes)) (omega (arith, nesting-And t fs, s.nested))
      (right (nat_le 2 (length (map is_whole fs))) (list_all (λ b. b) (map is_whole fs)) (subst IsTrue (whole-And t fs) s.whole)) (omega arith) (omega arith)

  pub small-Or : (t : ℕ) (fs : List FormulaTree) → IsBuildable d (tree.Or t fs) → AreBuildable d fs
  small-Or t fs s =
      all_below fs 65536 64 (omega (arith, count-Or d t fs, s.nodes)) (omega (arith, nesting-Or t fs, s.nested))
      (right (nat_le 2 (length (map is_whole fs))) (list_all (λ b. b) (map is_whole fs)) (subst IsTrue (whole-Or t fs) s.whole)) (omega arith) (omega arith)

  two : (n : ℕ) → IsTrue (nat_le 2 n) → 2 ≤ n
  two n h = grind (arith, nat_tests)

  pub many-And : (t : ℕ) (fs : List FormulaTree) → IsBuildable d (tree.And t fs) → 2 ≤ length fs
  many-And t fs s =
      let more = two (length (map is_whole fs)) (left (nat_le 2 (length (map is_whole fs))) (list_all (λ b. b) (map is_whole fs)) (subst IsTrue (whole-And t fs) s.whole)) in
      omega (arith, more, length-map fs is_whole)

  pub many-Or : (t : ℕ) (fs : List FormulaTree) → IsBuildable d (tree.Or t fs) → 2 ≤ length fs
  many-Or t fs s =
      let more = two (length (map is_whole fs)) (left (nat_le 2 (length (map is_whole fs))) (list_all (λ b. b) (map is_whole fs)) (subst IsTrue (whole-Or t fs) s.whole)) in
      omega (arith, more, length-map fs is_whole)

  -- ---- what a buildable formula grounds to can be made

  module _ (b : Binding) where
    pub makeable : (f : FormulaTree) → IsBuildable d f → IsMakeable (ground_of d f b)
    makeable f s = record { nodes = omega (arith, counted d f b, s.nodes); shallow = omega (arith, shallow d f b, s.nested) }

    pub makeable-Not : (t : ℕ) (f : FormulaTree) → IsBuildable d (tree.Not t f) → IsMakeable (node.Not (ground_of d f b))
    makeable-Not t f s = subst IsMakeable (ground-Not d b t f) (makeable (tree.Not t f) s)

    pub makeable-Knows : (t : ℕ) (x : Name) (f : FormulaTree) → IsBuildable d (tree.Knows t x f) → IsMakeable (node.Knows (record { n = agent_at d b x }) (ground_of d f b))
    makeable-Knows t x f s = subst IsMakeable (ground-Knows d b t x f) (makeable (tree.Knows t x f) s)

    pub makeable-Common : (t : ℕ) (g : GroupTree) (f : FormulaTree) → IsBuildable d (tree.Common t g f) → IsMakeable (node.Common (group_of d b g) (ground_of d f b))
    makeable-Common t g f s = subst IsMakeable (ground-Common d b t g f) (makeable (tree.Common t g f) s)

    pub makeable-Forall : (t : ℕ) (ps : List ParamTree) (f : FormulaTree) → IsBuildable d (tree.Forall t ps f) → IsMakeable (conjunction (instances d (ground_of d f) b ps))
    makeable-Forall t ps f s = subst IsMakeable (ground-Forall d b t ps f) (makeable (tree.Forall t ps f) s)

    pub makeable-Exists : (t : ℕ) (ps : List ParamTree) (f : FormulaTree) → IsBuildable d (tree.Exists t ps f) → IsMakeable (disjunction (instances d (ground_of d f) b ps))
    makeable-Exists t ps f s = subst IsMakeable (ground-Exists d b t ps f) (makeable (tree.Exists t ps f) s)

    -- two parts at least are a conjunction or a disjunction
    conjunction-many : (ns : List Node) → 2 ≤ length ns → conjunction ns ≡ node.And ns
    conjunction-many [] h = absurd (omega arith)
    conjunction-many (n ∷ []) h = absurd (omega arith)
    conjunction-many (n ∷ m ∷ ns) h = refl

    disjunction-many : (ns : List Node) → 2 ≤ length ns → disjunction ns ≡ node.Or ns
    disjunction-many [] h = absurd (omega arith)
    disjunction-many (n ∷ []) h = absurd (omega arith)
    disjunction-many (n ∷ m ∷ ns) h = refl

    pub ground-parts-And : (t : ℕ) (fs : List FormulaTree) → IsBuildable d (tree.And t fs) → conjunction (map (λ f. ground_of d f b) fs) ≡ ground_of d (tree.And t fs) b
    ground-parts-And t fs s =
        let more = many-And t fs s in
        conjunction-many (map (λ f. ground_of d f b) fs) (omega (arith, more, length-map fs (λ f. ground_of d f b))) ∙ sym (ground-And d b t fs)

    pub ground-parts-Or : (t : ℕ) (fs : List FormulaTree) → IsBuildable d (tree.Or t fs) → disjunction (map (λ f. ground_of d f b) fs) ≡ ground_of d (tree.Or t fs) b
    ground-parts-Or t fs s =
        let more = many-Or t fs s in
        disjunction-many (map (λ f. ground_of d f b) fs) (omega (arith, more, length-map fs (λ f. ground_of d f b))) ∙ sym (ground-Or d b t fs)

    pub makeable-And : (t : ℕ) (fs : List FormulaTree) → IsBuildable d (tree.And t fs) → IsMakeable (conjunction (map (λ f. ground_of d f b) fs))
    makeable-And t fs s = subst IsMakeable (sym (ground-parts-And t fs s)) (makeable (tree.And t fs) s)

    pub makeable-Or : (t : ℕ) (fs : List FormulaTree) → IsBuildable d (tree.Or t fs) → IsMakeable (disjunction (map (λ f. ground_of d f b) fs))
    makeable-Or t fs s = subst IsMakeable (sym (ground-parts-Or t fs s)) (makeable (tree.Or t fs) s)

    -- ---- how many parts there are

    pub length-instances : (ps : List ParamTree) (f : FormulaTree) → IsRepeatable d ps f → length (instances d (ground_of d f) b ps) ≤ 65536
    length-instances ps f s =
        omega (arith, length-map (bindings (candidates d ps)) (λ objects. ground_of d f (b ++ bound ps objects)), length-bindings (candidates d ps), repeated-many (binding_count (candidates d ps)) (ground_count d f) (positive d f), s.nodes)

    length-sum : (fs : List FormulaTree) → length fs ≤ sum (map (ground_count d) fs)
    length-sum [] = omega arith
    length-sum (f ∷ fs) =
        let e : sum (map (ground_count d) (f ∷ fs)) ≡ ground_count d f + sum (map (ground_count d) fs) = sum_by-cons (λ k. k) (ground_count d f) (map (ground_count d) fs) in
        omega (arith, length-sum fs, positive d f)

    pub length-And : (t : ℕ) (fs : List FormulaTree) → IsBuildable d (tree.And t fs) → length (map (λ f. ground_of d f b) fs) ≤ 65536
    length-And t fs s = omega (arith, length-map fs (λ f. ground_of d f b), length-sum fs, count-And d t fs, s.nodes)

    pub length-Or : (t : ℕ) (fs : List FormulaTree) → IsBuildable d (tree.Or t fs) → length (map (λ f. ground_of d f b) fs) ≤ 65536
    length-Or t fs s = omega (arith, length-map fs (λ f. ground_of d f b), length-sum fs, count-Or d t fs, s.nodes)

-- an answer under another name
pub given : {A E : Type 0} (r : Result A E) (x y : A) → x ≡ y → IfOk r (λ z. z ≡ x) → IfOk r (λ z. z ≡ y)
given (Ok z) x y e h = h ∙ e
given (Err z) x y e h = tt
