-- What it means that a tree reads a list of tokens, and where a list that no tree reads is refused.
use Rattle.std.specs.Prelude.{◌≡◌, ℕ, ◌+◌, ◌<◌, ◌≤◌, List, ◌++◌, length, take, Some}
use Rattle.ep_lex.specs.declared.limits.TheConstants.{MOST_TOKENS}
use Rattle.ep_tree.specs.declared.limits.TheConstants.{MOST_NESTING}
use Rattle.ep_tree.specs.declared.tree.TaskTree.{TaskTree}
use Rattle.ep_tree.specs.declared.tree.FormulaTree.{FormulaTree}
use Rattle.ep_tree.specs.declared.tree.PlanTree.{PlanTree}
use Rattle.ep_tree.specs.Marks.{Mark, texts, PlacedFrom, IsShallow, nesting_at}
use Rattle.ep_tree.specs.Spelling as spell
use Rattle.ep_tree.specs.Formed.{IsFormedTask, IsFormedFormula, IsFormedPlan}
use Rattle.ep_tree.specs.Bare.{bare_task, bare_formula, bare_plan}

-- A kind of text: how its trees are spelled, which are well-formed, and the tree without token numbers.
pub record Grammar (A : Type 0) : Type 1 where
  pub marks : A → List Mark
  pub IsFormed : A → Type 0
  pub bare : A → A

abbrev pub tasks : Grammar TaskTree
tasks = record { marks = spell.task; IsFormed = IsFormedTask; bare = bare_task }

abbrev pub formulas : Grammar FormulaTree
formulas = record { marks = spell.formula; IsFormed = IsFormedFormula; bare = bare_formula }

abbrev pub plans : Grammar PlanTree
plans = record { marks = spell.plan; IsFormed = IsFormedPlan; bare = bare_plan }

-- the tokens of a tree
abbrev pub spelling_of : {A : Type 0} → Grammar A → A → List (List ℕ)
spelling_of g tree = texts (g.marks tree)

-- The tree is spelled by these tokens, holds their places, and no formula stands too deep.
pub record Reads {A : Type 0} (g : Grammar A) (tokens : List (List ℕ)) (tree : A) : Type 0 where
  pub formed : g.IsFormed tree
  pub spelled : spelling_of g tree ≡ tokens
  pub placed : PlacedFrom 0 (g.marks tree)
  pub shallow : IsShallow (g.marks tree)

-- the task tree reads some list of tokens within their limit, but for its token numbers
pub record IsRead (t : TaskTree) : Type 0 where
  pub formed : IsFormedTask t
  pub shallow : IsShallow (tasks.marks t)
  pub few : length (spelling_of tasks t) ≤ MOST_TOKENS

-- no other tree is spelled so, but for token numbers
abbrev pub IsOnly : {A : Type 0} → Grammar A → List (List ℕ) → A → Type 0
IsOnly {A} g tokens tree = (other : A) → g.IsFormed other → spelling_of g other ≡ tokens → g.bare other ≡ g.bare tree

-- some text of the kind, of any nesting, begins with the tokens
pub record IsViable {A : Type 0} (g : Grammar A) (tokens : List (List ℕ)) : Type 0 where
  pub tree : A
  pub more : List (List ℕ)
  pub formed : g.IsFormed tree
  pub spelled : spelling_of g tree ≡ tokens ++ more

-- n is the viable count: the greatest number such that the first n tokens are viable
pub record IsViableCount {A : Type 0} (g : Grammar A) (tokens : List (List ℕ)) (n : ℕ) : Type 0 where
  pub within : n ≤ length tokens
  pub viable : IsViable g (take n tokens)
  pub greatest : (k : ℕ) → n < k → k ≤ length tokens → IsViable g (take k tokens) → ⊥

-- Some viable front of the tokens, of `count` tokens, has token t, and in every text of the kind that begins with
-- this front token t begins a formula that stands too deep. So it does in those that begin with a longer one.
pub record IsDeep {A : Type 0} (g : Grammar A) (tokens : List (List ℕ)) (t : ℕ) : Type 0 where
  pub count : ℕ
  pub within : count ≤ length tokens
  pub viable : IsViable g (take count tokens)
  pub below : t < count
  pub always : (tree : A) (more : List (List ℕ)) → g.IsFormed tree → spelling_of g tree ≡ take count tokens ++ more
      → nesting_at (g.marks tree) t ≡ Some (MOST_NESTING + 1)

-- No token is deep, no tree reads the tokens, and n is the viable count.
pub record SyntaxAt {A : Type 0} (g : Grammar A) (tokens : List (List ℕ)) (n : ℕ) : Type 0 where
  pub none_deep : (t : ℕ) → IsDeep g tokens t → ⊥
  pub unread : (tree : A) → Reads g tokens tree → ⊥
  pub is_count : IsViableCount g tokens n

-- Token t is the first deep one.
pub record DeepAt {A : Type 0} (g : Grammar A) (tokens : List (List ℕ)) (t : ℕ) : Type 0 where
  pub deep : IsDeep g tokens t
  pub first : (u : ℕ) → u < t → IsDeep g tokens u → ⊥
