-- What keeps a ground form within the limits of a formula.
use Rattle.std.specs.Prelude.{ℕ, ◌<◌, ◌≤◌, Bool, true, ◌&&◌, nat_le, List, length, IsTrue, All as Each}
use Rattle.std.specs.List.{list_all}
use Rattle.ep_binding.specs.Bindings.{binding_count}
use Rattle.ep_logic.specs.Nodes.{node_count, depth_of}
use Rattle.ep_logic.specs.declared.formula.TheConstants.{MOST_DEPTH, MOST_NODES}
use Rattle.ep_logic.specs.declared.formula.Node.{Node}
use Rattle.ep_tree.specs.Nesting.{nesting}
use Rattle.ep_tree.specs.declared.limits.TheConstants.{MOST_NESTING}
use Rattle.ep_tree.specs.declared.tree.GroupTree.{GroupTree}
use Rattle.ep_tree.specs.declared.tree.GroupTree.TheVariants.{All, Members}
use Rattle.ep_tree.specs.declared.tree.FormulaTree.{FormulaTree}
use Rattle.ep_tree.specs.declared.tree.FormulaTree.TheOpen.{FormulaTree-F}
use Rattle.ep_tree.specs.declared.tree.FormulaTree.TheFolds.{fold-FormulaTree}
use Rattle.ep_tree.specs.declared.tree.ParamTree.{ParamTree}
use Rattle.ep_types.specs.declared.scope.Declared.{Declared}
use Rattle.ep_universe.specs.Counts.{ground_count, repeated}
use Rattle.ep_universe.specs.Objects.{candidates}
use Rattle.ep_universe.specs.declared.limits.TheConstants.{MOST_GROUND_NODES}

abbrev pub has_member : GroupTree → Bool
has_member (All token) = true
has_member (Members token names) = nat_le 1 (length names)

abbrev pub whole_layer : FormulaTree-F Bool → Bool
whole_layer (FormulaTree-F.True token) = true
whole_layer (FormulaTree-F.False token) = true
whole_layer (FormulaTree-F.Atom a) = true
whole_layer (FormulaTree-F.Not token b) = b
whole_layer (FormulaTree-F.Knows token x b) = b
whole_layer (FormulaTree-F.Common token g b) = has_member g && b
whole_layer (FormulaTree-F.Forall token ps b) = b
whole_layer (FormulaTree-F.Exists token ps b) = b
whole_layer (FormulaTree-F.Equal token x y) = true
whole_layer (FormulaTree-F.Paren token b) = b
whole_layer (FormulaTree-F.And token bs) = nat_le 2 (length bs) && list_all (λ b. b) bs
whole_layer (FormulaTree-F.Or token bs) = nat_le 2 (length bs) && list_all (λ b. b) bs

-- each conjunction and disjunction has two parts at least, and each group a member
unfoldable pub is_whole : FormulaTree → Bool
is_whole = fold-FormulaTree Bool whole_layer

-- what can be built of a formula, whatever the binding
pub record IsBuildable (d : Declared) (f : FormulaTree) : Type 0 where
  pub whole : IsTrue (is_whole f)
  pub nodes : ground_count d f ≤ MOST_GROUND_NODES
  pub nested : nesting f ≤ MOST_NESTING

abbrev pub AreBuildable : Declared → List FormulaTree → Type 0
AreBuildable d fs = Each (IsBuildable d) fs

-- the same of a formula at each binding of parameters
pub record IsRepeatable (d : Declared) (ps : List ParamTree) (f : FormulaTree) : Type 0 where
  pub whole : IsTrue (is_whole f)
  pub nodes : repeated (binding_count (candidates d ps)) (ground_count d f) ≤ MOST_GROUND_NODES
  pub nested : nesting f < MOST_NESTING

-- a node within the limits of a formula
pub record IsMakeable (n : Node) : Type 0 where
  pub nodes : node_count n ≤ MOST_NODES
  pub shallow : depth_of n ≤ MOST_DEPTH
