-- The numbers of nodes of ground formulas, which do not depend on the binding.
use Rattle.std.specs.Prelude.{ℕ, zero, suc, ◌+◌, ◌*◌, sum, min}
use Rattle.ep_binding.specs.Bindings.{binding_count}
use Rattle.ep_tree.specs.declared.tree.FormulaTree.{FormulaTree}
use Rattle.ep_tree.specs.declared.tree.FormulaTree.TheOpen.{FormulaTree-F}
use Rattle.ep_tree.specs.declared.tree.FormulaTree.TheFolds.{fold-FormulaTree}
use Rattle.ep_types.specs.declared.scope.Declared.{Declared}
use Rattle.ep_universe.specs.Objects.{candidates}
use Rattle.ep_universe.specs.declared.limits.TheConstants.{MOST_GROUND_NODES}

-- the nodes of so many instances of n nodes: none is one constant, and one is itself
abbrev pub repeated : ℕ → ℕ → ℕ
repeated zero n = 1
repeated (suc zero) n = n
repeated (suc (suc k)) n = suc (suc k) * n + 1

abbrev pub count_layer : Declared → FormulaTree-F ℕ → ℕ
count_layer d (FormulaTree-F.True token) = 1
count_layer d (FormulaTree-F.False token) = 1
count_layer d (FormulaTree-F.Atom a) = 1
count_layer d (FormulaTree-F.Not token n) = n + 1
count_layer d (FormulaTree-F.Knows token x n) = n + 1
count_layer d (FormulaTree-F.Common token g n) = n + 1
count_layer d (FormulaTree-F.Forall token ps n) = repeated (binding_count (candidates d ps)) n
count_layer d (FormulaTree-F.Exists token ps n) = repeated (binding_count (candidates d ps)) n
count_layer d (FormulaTree-F.Equal token x y) = 1
count_layer d (FormulaTree-F.Paren token n) = n
count_layer d (FormulaTree-F.And token ns) = sum ns + 1
count_layer d (FormulaTree-F.Or token ns) = sum ns + 1

-- the nodes of the ground form
unfoldable pub ground_count : Declared → FormulaTree → ℕ
ground_count d = fold-FormulaTree ℕ (count_layer d)

-- a count, where each above the most is told as one more than the most
abbrev pub capped : ℕ → ℕ
capped n = min n (MOST_GROUND_NODES + 1)
