-- How many formulas stand one in another.
use Rattle.std.specs.Prelude.{ℕ, ◌+◌}
use Rattle.ep_base.specs.Numbers.{largest}
use Rattle.ep_tree.specs.declared.tree.FormulaTree.{FormulaTree}
use Rattle.ep_tree.specs.declared.tree.FormulaTree.TheOpen.{FormulaTree-F}
use Rattle.ep_tree.specs.declared.tree.FormulaTree.TheFolds.{fold-FormulaTree}

abbrev pub nesting_layer : FormulaTree-F ℕ → ℕ
nesting_layer (FormulaTree-F.True token) = 1
nesting_layer (FormulaTree-F.False token) = 1
nesting_layer (FormulaTree-F.Atom a) = 1
nesting_layer (FormulaTree-F.Not token n) = n + 1
nesting_layer (FormulaTree-F.Knows token x n) = n + 1
nesting_layer (FormulaTree-F.Common token g n) = n + 1
nesting_layer (FormulaTree-F.Forall token ps n) = n + 1
nesting_layer (FormulaTree-F.Exists token ps n) = n + 1
nesting_layer (FormulaTree-F.Equal token x y) = 1
nesting_layer (FormulaTree-F.Paren token n) = n + 1
nesting_layer (FormulaTree-F.And token ns) = largest ns + 1
nesting_layer (FormulaTree-F.Or token ns) = largest ns + 1

-- how many formulas stand one in another at most: a formula that has no other in it has nesting 1
unfoldable pub nesting : FormulaTree → ℕ
nesting = fold-FormulaTree ℕ nesting_layer
