-- Formulas whose nodes are numbered, each after its parts.
use Rattle.std.specs.Prelude.{◌≡◌, ℕ, ◌+◌, ◌<◌, List, [], ◌∷◌, ◌++◌, length, map, slice_index_or, Bool, IsTrue}
use Rattle.std.specs.List.{AllByRecursion, list_all, list_any}
use Rattle.ep_logic.specs.Rows.{value_at}
use Rattle.ep_logic.specs.Numbers.{table}
use Rattle.ep_logic.specs.declared.formula.Node.{Node}
use Rattle.ep_logic.specs.declared.formula.Node.TheVariants.{True, False, Atom, Not, And, Or, Knows, Common}
use Rattle.ep_theory.specs.Kripke.{Kripke}
use Rattle.ep_theory.specs.Tested.{is_true}
use Rattle.ep_theory.specs.Fits.{fits_in}
use Rattle.ep_truth.specs.declared.formula_table.Entry.{Entry}

-- the tree with the number
abbrev pub tree_at : List Node → ℕ → Node
tree_at trees n = slice_index_or trees n True

-- the earlier trees keep their numbers
abbrev pub KeepsTrees : List Node → List Node → Type 0
KeepsTrees old new = (more : List Node) × (new ≡ old ++ more)

-- every agent and atom of the trees is below these numbers
abbrev pub AreFit : ℕ → ℕ → List Node → Type 0
AreFit agents atoms trees = AllByRecursion (λ f. IsTrue (fits_in agents atoms f)) trees

-- where the trees and the formula fit, the new trees do
abbrev pub StayFit : List Node → Node → List Node → Type 0
StayFit old f new = (agents atoms : ℕ) → AreFit agents atoms old → IsTrue (fits_in agents atoms f) → AreFit agents atoms new

-- where the trees and these formulas fit, the new trees do
abbrev pub AllStayFit : List Node → List Node → List Node → Type 0
AllStayFit old fs new = (agents atoms : ℕ) → AreFit agents atoms old → IsTrue (list_all (fits_in agents atoms) fs) → AreFit agents atoms new

-- the truth of the formula at each world
abbrev pub truth_row : Kripke → Node → List Bool
truth_row S f = table (λ w. is_true S w f) S.worlds

-- whether each of the rows with these numbers is true at the world
abbrev pub all_rows_test : List (List Bool) → List ℕ → ℕ → Bool
all_rows_test rows ns w = list_all (λ n. value_at (slice_index_or rows n []) w) ns

-- whether one of the rows with these numbers is true at the world
abbrev pub any_rows_test : List (List Bool) → List ℕ → ℕ → Bool
any_rows_test rows ns w = list_any (λ n. value_at (slice_index_or rows n []) w) ns

-- the tree of an entry, whose parts are among these trees
abbrev pub tree_of : List Node → Entry → Node
tree_of trees Entry.True = True
tree_of trees Entry.False = False
tree_of trees (Entry.Atom p) = Atom p
tree_of trees (Entry.Not n) = Not (tree_at trees n)
tree_of trees (Entry.And ns) = And (map (tree_at trees) ns)
tree_of trees (Entry.Or ns) = Or (map (tree_at trees) ns)
tree_of trees (Entry.Knows a n) = Knows a (tree_at trees n)
tree_of trees (Entry.Common g n) = Common g (tree_at trees n)

-- these trees, and one more for each entry
abbrev pub with_trees : List Node → List Entry → List Node
with_trees trees [] = trees
with_trees trees (e ∷ es) = with_trees (trees ++ tree_of trees e ∷ []) es

-- the trees of the entries
unfoldable pub trees_of : List Entry → List Node
trees_of es = with_trees [] es

-- the numbers of the parts are below n
abbrev pub IsBelow : ℕ → Entry → Type 0
IsBelow n Entry.True = Unit {0}
IsBelow n Entry.False = Unit {0}
IsBelow n (Entry.Atom p) = Unit {0}
IsBelow n (Entry.Not m) = m < n
IsBelow n (Entry.And ms) = AllByRecursion (λ m. m < n) ms
IsBelow n (Entry.Or ms) = AllByRecursion (λ m. m < n) ms
IsBelow n (Entry.Knows a m) = m < n
IsBelow n (Entry.Common g m) = m < n

-- the entries, numbered from n on, come after their parts
abbrev pub AreOrdered : ℕ → List Entry → Type 0
AreOrdered n [] = Unit {0}
AreOrdered n (e ∷ es) = IsBelow n e × AreOrdered (n + 1) es

-- the entry's parts are among the trees, and it has this tree
pub record IsEntryOf (trees : List Node) (f : Node) (e : Entry) : Type 0 where
  pub below : IsBelow (length trees) e
  pub tree : tree_of trees e ≡ f

-- the numbers of these formulas among the trees
pub record AreNumbersOf (trees : List Node) (fs : List Node) (ns : List ℕ) : Type 0 where
  pub below : AllByRecursion (λ n. n < length trees) ns
  pub each : map (tree_at trees) ns ≡ fs
