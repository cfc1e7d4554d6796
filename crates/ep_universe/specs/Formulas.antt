-- The ground form of a formula under a binding of the parameters in force.
use Rattle.std.specs.Prelude.{◌==◌, List, [], ◌∷◌, ◌++◌, map, if◌then◌else◌}
use Rattle.ep_logic.specs.declared.formula.Node.{Node}
use Rattle.ep_logic.specs.declared.formula.Node.TheVariants as node
use Rattle.ep_binding.specs.Bindings.{bindings}
use Rattle.ep_tree.specs.declared.tree.ParamTree.{ParamTree}
use Rattle.ep_tree.specs.declared.tree.FormulaTree.{FormulaTree}
use Rattle.ep_tree.specs.declared.tree.FormulaTree.TheOpen.{FormulaTree-F}
use Rattle.ep_tree.specs.declared.tree.FormulaTree.TheFolds.{fold-FormulaTree}
use Rattle.ep_types.specs.declared.scope.Declared.{Declared}
use Rattle.ep_universe.specs.Objects.{Binding, object_at, agent_at, group_of, candidates, bound}
use Rattle.ep_universe.specs.Atoms.{atom_at}

-- all of these: none is `true`, and one is itself
abbrev pub conjunction : List Node → Node
conjunction [] = node.True
conjunction (f ∷ []) = f
conjunction (f ∷ g ∷ fs) = node.And (f ∷ g ∷ fs)

-- some of these: none is `false`, and one is itself
abbrev pub disjunction : List Node → Node
disjunction [] = node.False
disjunction (f ∷ []) = f
disjunction (f ∷ g ∷ fs) = node.Or (f ∷ g ∷ fs)

-- a formula at each binding of more parameters
abbrev pub instances : Declared → (Binding → Node) → Binding → List ParamTree → List Node
instances d f b params = map (λ objects. f (b ++ bound params objects)) (bindings (candidates d params))

-- one case for each production
abbrev pub ground_layer : Declared → FormulaTree-F (Binding → Node) → Binding → Node
ground_layer d (FormulaTree-F.True token) b = node.True
ground_layer d (FormulaTree-F.False token) b = node.False
ground_layer d (FormulaTree-F.Atom a) b = node.Atom (record { n = atom_at d b a })
ground_layer d (FormulaTree-F.Not token f) b = node.Not (f b)
ground_layer d (FormulaTree-F.Knows token x f) b = node.Knows (record { n = agent_at d b x }) (f b)
ground_layer d (FormulaTree-F.Common token g f) b = node.Common (group_of d b g) (f b)
ground_layer d (FormulaTree-F.Forall token ps f) b = conjunction (instances d f b ps)
ground_layer d (FormulaTree-F.Exists token ps f) b = disjunction (instances d f b ps)
ground_layer d (FormulaTree-F.Equal token x y) b = if object_at d b x.text == object_at d b y.text then node.True else node.False
ground_layer d (FormulaTree-F.Paren token f) b = f b
ground_layer d (FormulaTree-F.And token fs) b = node.And (map (λ f. f b) fs)
ground_layer d (FormulaTree-F.Or token fs) b = node.Or (map (λ f. f b) fs)

unfoldable pub ground_of : Declared → FormulaTree → Binding → Node
ground_of d = fold-FormulaTree (Binding → Node) (ground_layer d)
