-- The equations of the folds over formulas, variant by variant.
use Rattle.std.proofs.Common.{◌≡◌, ℕ, ◌+◌, Bool, true, ◌&&◌, List, [], ◌∷◌, length, map, sum, cond, nat_le, refl, ap, ◌∙◌, sym}
use Rattle.std.specs.Prelude.{◌==◌}
use Rattle.std.specs.List.{list_all}
use Rattle.ep_logic.specs.declared.formula.Node.{Node}
use Rattle.ep_logic.specs.declared.formula.Node.TheVariants as node
use Rattle.ep_base.specs.Numbers.{largest}
use Rattle.ep_binding.specs.Bindings.{binding_count}
use Rattle.ep_tree.specs.declared.tree.Name.{Name}
use Rattle.ep_tree.specs.declared.tree.AtomTree.{AtomTree}
use Rattle.ep_tree.specs.declared.tree.GroupTree.{GroupTree}
use Rattle.ep_tree.specs.declared.tree.ParamTree.{ParamTree}
use Rattle.ep_tree.specs.declared.tree.FormulaTree.{FormulaTree, roll-FormulaTree}
use Rattle.ep_tree.specs.declared.tree.FormulaTree.TheOpen.{FormulaTree-F}
use Rattle.ep_tree.specs.declared.tree.FormulaTree.TheVariants as tree
use Rattle.ep_tree.specs.declared.tree.FormulaTree.TheFolds.{map-FormulaTree, fold-roll-FormulaTree}
use Rattle.ep_types.specs.declared.scope.Declared.{Declared}
use Rattle.ep_universe.specs.Objects.{Binding, object_at, agent_at, group_of, candidates}
use Rattle.ep_universe.specs.Atoms.{atom_at}
use Rattle.ep_universe.specs.Formulas.{ground_of, ground_layer, conjunction, disjunction, instances}
use Rattle.ep_universe.specs.Counts.{ground_count, count_layer, repeated}
use Rattle.ep_tree.specs.Nesting.{nesting}
use Rattle.ep_tree.proofs.CallerLemmas.{nesting-roll}
use Rattle.ep_universe.specs.Sizes.{is_whole, whole_layer, has_member}

map_map : {X Y Z : Type 0} (f : Y → Z) (g : X → Y) (xs : List X) → map f (map g xs) ≡ map (λ x. f (g x)) xs
map_map f g [] = refl
map_map f g (x ∷ xs) = ap (λ ys. f (g x) ∷ ys) (map_map f g xs)

-- one level of each fold
pub ground-roll : (d : Declared) (x : FormulaTree-F FormulaTree) → ground_of d (roll-FormulaTree x) ≡ ground_layer d (map-FormulaTree FormulaTree (Binding → Node) (ground_of d) x)
unfolding ground_of
ground-roll d x = fold-roll-FormulaTree (Binding → Node) (ground_layer d) x

pub count-roll : (d : Declared) (x : FormulaTree-F FormulaTree) → ground_count d (roll-FormulaTree x) ≡ count_layer d (map-FormulaTree FormulaTree ℕ (ground_count d) x)
unfolding ground_count
count-roll d x = fold-roll-FormulaTree ℕ (count_layer d) x

pub whole-roll : (x : FormulaTree-F FormulaTree) → is_whole (roll-FormulaTree x) ≡ whole_layer (map-FormulaTree FormulaTree Bool is_whole x)
unfolding is_whole
whole-roll x = fold-roll-FormulaTree Bool whole_layer x

-- the ground form
pub ground-True : (d : Declared) (b : Binding) (t : ℕ) → ground_of d (tree.True t) b ≡ node.True
ground-True d b t = ap (λ z. ground_of d z b) (sym (tree.rolls-True t)) ∙ ap (λ k. k b) (ground-roll d (FormulaTree-F.True t))

pub ground-False : (d : Declared) (b : Binding) (t : ℕ) → ground_of d (tree.False t) b ≡ node.False
ground-False d b t = ap (λ z. ground_of d z b) (sym (tree.rolls-False t)) ∙ ap (λ k. k b) (ground-roll d (FormulaTree-F.False t))

pub ground-Atom : (d : Declared) (b : Binding) (a : AtomTree) → ground_of d (tree.Atom a) b ≡ node.Atom (record { n = atom_at d b a })
ground-Atom d b a = ap (λ z. ground_of d z b) (sym (tree.rolls-Atom a)) ∙ ap (λ k. k b) (ground-roll d (FormulaTree-F.Atom a))

pub ground-Not : (d : Declared) (b : Binding) (t : ℕ) (f : FormulaTree) → ground_of d (tree.Not t f) b ≡ node.Not (ground_of d f b)
ground-Not d b t f = ap (λ z. ground_of d z b) (sym (tree.rolls-Not t f)) ∙ ap (λ k. k b) (ground-roll d (FormulaTree-F.Not t f))

pub ground-Knows : (d : Declared) (b : Binding) (t : ℕ) (x : Name) (f : FormulaTree) → ground_of d (tree.Knows t x f) b ≡ node.Knows (record { n = agent_at d b x }) (ground_of d f b)
ground-Knows d b t x f = ap (λ z. ground_of d z b) (sym (tree.rolls-Knows t x f)) ∙ ap (λ k. k b) (ground-roll d (FormulaTree-F.Knows t x f))

pub ground-Common : (d : Declared) (b : Binding) (t : ℕ) (g : GroupTree) (f : FormulaTree) → ground_of d (tree.Common t g f) b ≡ node.Common (group_of d b g) (ground_of d f b)
ground-Common d b t g f = ap (λ z. ground_of d z b) (sym (tree.rolls-Common t g f)) ∙ ap (λ k. k b) (ground-roll d (FormulaTree-F.Common t g f))

pub ground-Forall : (d : Declared) (b : Binding) (t : ℕ) (ps : List ParamTree) (f : FormulaTree) → ground_of d (tree.Forall t ps f) b ≡ conjunction (instances d (ground_of d f) b ps)
ground-Forall d b t ps f = ap (λ z. ground_of d z b) (sym (tree.rolls-Forall t ps f)) ∙ ap (λ k. k b) (ground-roll d (FormulaTree-F.Forall t ps f))

pub ground-Exists : (d : Declared) (b : Binding) (t : ℕ) (ps : List ParamTree) (f : FormulaTree) → ground_of d (tree.Exists t ps f) b ≡ disjunction (instances d (ground_of d f) b ps)
ground-Exists d b t ps f = ap (λ z. ground_of d z b) (sym (tree.rolls-Exists t ps f)) ∙ ap (λ k. k b) (ground-roll d (FormulaTree-F.Exists t ps f))

pub ground-Equal : (d : Declared) (b : Binding) (t : ℕ) (x y : Name) → ground_of d (tree.Equal t x y) b ≡ cond (object_at d b x.text == object_at d b y.text) node.True node.False
ground-Equal d b t x y = ap (λ z. ground_of d z b) (sym (tree.rolls-Equal t x y)) ∙ ap (λ k. k b) (ground-roll d (FormulaTree-F.Equal t x y))

pub ground-Paren : (d : Declared) (b : Binding) (t : ℕ) (f : FormulaTree) → ground_of d (tree.Paren t f) b ≡ ground_of d f b
ground-Paren d b t f = ap (λ z. ground_of d z b) (sym (tree.rolls-Paren t f)) ∙ ap (λ k. k b) (ground-roll d (FormulaTree-F.Paren t f))

pub ground-And : (d : Declared) (b : Binding) (t : ℕ) (fs : List FormulaTree) → ground_of d (tree.And t fs) b ≡ node.And (map (λ f. ground_of d f b) fs)
ground-And d b t fs = ap (λ z. ground_of d z b) (sym (tree.rolls-And t fs)) ∙ ap (λ k. k b) (ground-roll d (FormulaTree-F.And t fs)) ∙ ap node.And (map_map (λ f. f b) (ground_of d) fs)

pub ground-Or : (d : Declared) (b : Binding) (t : ℕ) (fs : List FormulaTree) → ground_of d (tree.Or t fs) b ≡ node.Or (map (λ f. ground_of d f b) fs)
ground-Or d b t fs = ap (λ z. ground_of d z b) (sym (tree.rolls-Or t fs)) ∙ ap (λ k. k b) (ground-roll d (FormulaTree-F.Or t fs)) ∙ ap node.Or (map_map (λ f. f b) (ground_of d) fs)

-- its nodes
pub count-True : (d : Declared) (t : ℕ) → ground_count d (tree.True t) ≡ 1
count-True d t = ap (ground_count d) (sym (tree.rolls-True t)) ∙ count-roll d (FormulaTree-F.True t)

pub count-False : (d : Declared) (t : ℕ) → ground_count d (tree.False t) ≡ 1
count-False d t = ap (ground_count d) (sym (tree.rolls-False t)) ∙ count-roll d (FormulaTree-F.False t)

pub count-Atom : (d : Declared) (a : AtomTree) → ground_count d (tree.Atom a) ≡ 1
count-Atom d a = ap (ground_count d) (sym (tree.rolls-Atom a)) ∙ count-roll d (FormulaTree-F.Atom a)

pub count-Not : (d : Declared) (t : ℕ) (f : FormulaTree) → ground_count d (tree.Not t f) ≡ ground_count d f + 1
count-Not d t f = ap (ground_count d) (sym (tree.rolls-Not t f)) ∙ count-roll d (FormulaTree-F.Not t f)

pub count-Knows : (d : Declared) (t : ℕ) (x : Name) (f : FormulaTree) → ground_count d (tree.Knows t x f) ≡ ground_count d f + 1
count-Knows d t x f = ap (ground_count d) (sym (tree.rolls-Knows t x f)) ∙ count-roll d (FormulaTree-F.Knows t x f)

pub count-Common : (d : Declared) (t : ℕ) (g : GroupTree) (f : FormulaTree) → ground_count d (tree.Common t g f) ≡ ground_count d f + 1
count-Common d t g f = ap (ground_count d) (sym (tree.rolls-Common t g f)) ∙ count-roll d (FormulaTree-F.Common t g f)

pub count-Forall : (d : Declared) (t : ℕ) (ps : List ParamTree) (f : FormulaTree) → ground_count d (tree.Forall t ps f) ≡ repeated (binding_count (candidates d ps)) (ground_count d f)
count-Forall d t ps f = ap (ground_count d) (sym (tree.rolls-Forall t ps f)) ∙ count-roll d (FormulaTree-F.Forall t ps f)

pub count-Exists : (d : Declared) (t : ℕ) (ps : List ParamTree) (f : FormulaTree) → ground_count d (tree.Exists t ps f) ≡ repeated (binding_count (candidates d ps)) (ground_count d f)
count-Exists d t ps f = ap (ground_count d) (sym (tree.rolls-Exists t ps f)) ∙ count-roll d (FormulaTree-F.Exists t ps f)

pub count-Equal : (d : Declared) (t : ℕ) (x y : Name) → ground_count d (tree.Equal t x y) ≡ 1
count-Equal d t x y = ap (ground_count d) (sym (tree.rolls-Equal t x y)) ∙ count-roll d (FormulaTree-F.Equal t x y)

pub count-Paren : (d : Declared) (t : ℕ) (f : FormulaTree) → ground_count d (tree.Paren t f) ≡ ground_count d f
count-Paren d t f = ap (ground_count d) (sym (tree.rolls-Paren t f)) ∙ count-roll d (FormulaTree-F.Paren t f)

pub count-And : (d : Declared) (t : ℕ) (fs : List FormulaTree) → ground_count d (tree.And t fs) ≡ sum (map (ground_count d) fs) + 1
count-And d t fs = ap (ground_count d) (sym (tree.rolls-And t fs)) ∙ count-roll d (FormulaTree-F.And t fs)

pub count-Or : (d : Declared) (t : ℕ) (fs : List FormulaTree) → ground_count d (tree.Or t fs) ≡ sum (map (ground_count d) fs) + 1
count-Or d t fs = ap (ground_count d) (sym (tree.rolls-Or t fs)) ∙ count-roll d (FormulaTree-F.Or t fs)

-- the nesting
pub nesting-True : (t : ℕ) → nesting (tree.True t) ≡ 1
nesting-True t = ap nesting (sym (tree.rolls-True t)) ∙ nesting-roll (FormulaTree-F.True t)

pub nesting-False : (t : ℕ) → nesting (tree.False t) ≡ 1
nesting-False t = ap nesting (sym (tree.rolls-False t)) ∙ nesting-roll (FormulaTree-F.False t)

pub nesting-Atom : (a : AtomTree) → nesting (tree.Atom a) ≡ 1
nesting-Atom a = ap nesting (sym (tree.rolls-Atom a)) ∙ nesting-roll (FormulaTree-F.Atom a)

pub nesting-Not : (t : ℕ) (f : FormulaTree) → nesting (tree.Not t f) ≡ nesting f + 1
nesting-Not t f = ap nesting (sym (tree.rolls-Not t f)) ∙ nesting-roll (FormulaTree-F.Not t f)

pub nesting-Knows : (t : ℕ) (x : Name) (f : FormulaTree) → nesting (tree.Knows t x f) ≡ nesting f + 1
nesting-Knows t x f = ap nesting (sym (tree.rolls-Knows t x f)) ∙ nesting-roll (FormulaTree-F.Knows t x f)

pub nesting-Common : (t : ℕ) (g : GroupTree) (f : FormulaTree) → nesting (tree.Common t g f) ≡ nesting f + 1
nesting-Common t g f = ap nesting (sym (tree.rolls-Common t g f)) ∙ nesting-roll (FormulaTree-F.Common t g f)

pub nesting-Forall : (t : ℕ) (ps : List ParamTree) (f : FormulaTree) → nesting (tree.Forall t ps f) ≡ nesting f + 1
nesting-Forall t ps f = ap nesting (sym (tree.rolls-Forall t ps f)) ∙ nesting-roll (FormulaTree-F.Forall t ps f)

pub nesting-Exists : (t : ℕ) (ps : List ParamTree) (f : FormulaTree) → nesting (tree.Exists t ps f) ≡ nesting f + 1
nesting-Exists t ps f = ap nesting (sym (tree.rolls-Exists t ps f)) ∙ nesting-roll (FormulaTree-F.Exists t ps f)

pub nesting-Equal : (t : ℕ) (x y : Name) → nesting (tree.Equal t x y) ≡ 1
nesting-Equal t x y = ap nesting (sym (tree.rolls-Equal t x y)) ∙ nesting-roll (FormulaTree-F.Equal t x y)

pub nesting-Paren : (t : ℕ) (f : FormulaTree) → nesting (tree.Paren t f) ≡ nesting f + 1
nesting-Paren t f = ap nesting (sym (tree.rolls-Paren t f)) ∙ nesting-roll (FormulaTree-F.Paren t f)

pub nesting-And : (t : ℕ) (fs : List FormulaTree) → nesting (tree.And t fs) ≡ largest (map nesting fs) + 1
nesting-And t fs = ap nesting (sym (tree.rolls-And t fs)) ∙ nesting-roll (FormulaTree-F.And t fs)

pub nesting-Or : (t : ℕ) (fs : List FormulaTree) → nesting (tree.Or t fs) ≡ largest (map nesting fs) + 1
nesting-Or t fs = ap nesting (sym (tree.rolls-Or t fs)) ∙ nesting-roll (FormulaTree-F.Or t fs)

-- its form
pub whole-True : (t : ℕ) → is_whole (tree.True t) ≡ true
whole-True t = ap is_whole (sym (tree.rolls-True t)) ∙ whole-roll (FormulaTree-F.True t)

pub whole-False : (t : ℕ) → is_whole (tree.False t) ≡ true
whole-False t = ap is_whole (sym (tree.rolls-False t)) ∙ whole-roll (FormulaTree-F.False t)

pub whole-Atom : (a : AtomTree) → is_whole (tree.Atom a) ≡ true
whole-Atom a = ap is_whole (sym (tree.rolls-Atom a)) ∙ whole-roll (FormulaTree-F.Atom a)

pub whole-Not : (t : ℕ) (f : FormulaTree) → is_whole (tree.Not t f) ≡ is_whole f
whole-Not t f = ap is_whole (sym (tree.rolls-Not t f)) ∙ whole-roll (FormulaTree-F.Not t f)

pub whole-Knows : (t : ℕ) (x : Name) (f : FormulaTree) → is_whole (tree.Knows t x f) ≡ is_whole f
whole-Knows t x f = ap is_whole (sym (tree.rolls-Knows t x f)) ∙ whole-roll (FormulaTree-F.Knows t x f)

pub whole-Common : (t : ℕ) (g : GroupTree) (f : FormulaTree) → is_whole (tree.Common t g f) ≡ (has_member g && is_whole f)
whole-Common t g f = ap is_whole (sym (tree.rolls-Common t g f)) ∙ whole-roll (FormulaTree-F.Common t g f)

pub whole-Forall : (t : ℕ) (ps : List ParamTree) (f : FormulaTree) → is_whole (tree.Forall t ps f) ≡ is_whole f
whole-Forall t ps f = ap is_whole (sym (tree.rolls-Forall t ps f)) ∙ whole-roll (FormulaTree-F.Forall t ps f)

pub whole-Exists : (t : ℕ) (ps : List ParamTree) (f : FormulaTree) → is_whole (tree.Exists t ps f) ≡ is_whole f
whole-Exists t ps f = ap is_whole (sym (tree.rolls-Exists t ps f)) ∙ whole-roll (FormulaTree-F.Exists t ps f)

pub whole-Equal : (t : ℕ) (x y : Name) → is_whole (tree.Equal t x y) ≡ true
whole-Equal t x y = ap is_whole (sym (tree.rolls-Equal t x y)) ∙ whole-roll (FormulaTree-F.Equal t x y)

pub whole-Paren : (t : ℕ) (f : FormulaTree) → is_whole (tree.Paren t f) ≡ is_whole f
whole-Paren t f = ap is_whole (sym (tree.rolls-Paren t f)) ∙ whole-roll (FormulaTree-F.Paren t f)

pub whole-And : (t : ℕ) (fs : List FormulaTree) → is_whole (tree.And t fs) ≡ (nat_le 2 (length (map is_whole fs)) && list_all (λ b. b) (map is_whole fs))
whole-And t fs = ap is_whole (sym (tree.rolls-And t fs)) ∙ whole-roll (FormulaTree-F.And t fs)

pub whole-Or : (t : ℕ) (fs : List FormulaTree) → is_whole (tree.Or t fs) ≡ (nat_le 2 (length (map is_whole fs)) && list_all (λ b. b) (map is_whole fs))
whole-Or t fs = ap is_whole (sym (tree.rolls-Or t fs)) ∙ whole-roll (FormulaTree-F.Or t fs)

pub ruleset ground_laws = (ground-True, ground-False, ground-Atom, ground-Not, ground-Knows, ground-Common, ground-Forall, ground-Exists, ground-Equal, ground-Paren, ground-And, ground-Or)

pub ruleset count_laws = (count-True, count-False, count-Atom, count-Not, count-Knows, count-Common, count-Forall, count-Exists, count-Equal, count-Paren, count-And, count-Or)

pub ruleset nesting_laws = (nesting-True, nesting-False, nesting-Atom, nesting-Not, nesting-Knows, nesting-Common, nesting-Forall, nesting-Exists, nesting-Equal, nesting-Paren, nesting-And, nesting-Or)

pub ruleset whole_laws = (whole-True, whole-False, whole-Atom, whole-Not, whole-Knows, whole-Common, whole-Forall, whole-Exists, whole-Equal, whole-Paren, whole-And, whole-Or)
