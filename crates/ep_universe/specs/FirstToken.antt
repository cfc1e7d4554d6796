-- The first token of a formula.
use Rattle.std.specs.Prelude.{ℕ}
use Rattle.ep_tree.specs.declared.tree.FormulaTree.{FormulaTree, out-FormulaTree}
use Rattle.ep_tree.specs.declared.tree.FormulaTree.TheOpen.{FormulaTree-F}

abbrev pub token_of : FormulaTree-F FormulaTree → ℕ
token_of (FormulaTree-F.True token) = token
token_of (FormulaTree-F.False token) = token
token_of (FormulaTree-F.Atom a) = a.name.token
token_of (FormulaTree-F.Not token f) = token
token_of (FormulaTree-F.Knows token x f) = token
token_of (FormulaTree-F.Common token g f) = token
token_of (FormulaTree-F.Forall token ps f) = token
token_of (FormulaTree-F.Exists token ps f) = token
token_of (FormulaTree-F.Equal token x y) = token
token_of (FormulaTree-F.Paren token f) = token
token_of (FormulaTree-F.And token fs) = token
token_of (FormulaTree-F.Or token fs) = token

abbrev pub first_token : FormulaTree → ℕ
first_token f = token_of (out-FormulaTree f)
