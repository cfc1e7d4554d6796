-- What bytes say as a plan file for a ground task: the plan, or the first fault.
use Rattle.std.specs.Prelude.{◌≡◌, ◌≢◌, ℕ, List, length, Some, IfSome}
use Rattle.ep_bounds.specs.declared.bounds.Measure.TheVariants.{Cost}
use Rattle.ep_lex.specs.Tokens.{Lexed, line_at}
use Rattle.ep_logic.specs.declared.ids.ActionId.{ActionId}
use Rattle.ep_tree.specs.declared.tree.CallTree.{CallTree}
use Rattle.ep_tree.specs.declared.tree.PlanTree.{PlanTree}
use Rattle.ep_tree.specs.Grammar.{plans}
use Rattle.ep_reader.specs.Texts.{IsTextOf, IsTextFault}
use Rattle.ep_reader.specs.declared.text.TextError.TheVariants as text_error
use Rattle.ep_theory.specs.Plans.{weight}
use Rattle.ep_ground.specs.Task.{GroundTask}
use Rattle.ep_plan_text.specs.Calls.{NameActions, IsFirstUnknown}
use Rattle.ep_plan_text.specs.declared.read.PlanError.{PlanError}
use Rattle.ep_plan_text.specs.declared.read.PlanError.TheVariants.{Stray, TooManyTokens, Syntax, OtherTask, UnknownAction, WrongCount, WrongCost}

-- the fault of a text by itself; nothing in a plan file is too deep
abbrev pub IsFileFault : List ℕ → PlanError → Type 0
IsFileFault bytes (Stray at) = IsTextFault plans bytes (text_error.Stray at)
IsFileFault bytes TooManyTokens = IsTextFault plans bytes text_error.TooManyTokens
IsFileFault bytes (Syntax token line) = IsTextFault plans bytes (text_error.Syntax token line)
IsFileFault bytes _ = ⊥

-- ---- what a plan file says

-- the tree names the task
abbrev pub IsOfTask : GroundTask → PlanTree → Type 0
IsOfTask g tree = tree.task.text ≡ g.tree.name.text

-- the plan of a tree, with as many actions as are stated and the cost that is stated, if one is
pub record IsPlanOf (g : GroundTask) (tree : PlanTree) (plan : List ActionId) : Type 0 where
  pub task : IsOfTask g tree
  pub named : NameActions g tree.calls plan
  pub count : tree.count ≡ length tree.calls
  pub cost : IfSome tree.cost (λ cost. cost ≡ weight g.problem Cost plan)

-- some call names no ground action, and the line is that of the name of the first such
pub record IsUnknownAt (g : GroundTask) (line_of_token : ℕ → ℕ) (calls : List CallTree) (line : ℕ) : Type 0 where
  pub call : CallTree
  pub first : IsFirstUnknown g calls call
  pub line_is : line ≡ line_of_token call.name.token

-- all calls name actions, and the plan states another number of them
pub record IsMiscounted (g : GroundTask) (tree : PlanTree) (stated listed : ℕ) : Type 0 where
  pub actions : List ActionId
  pub named : NameActions g tree.calls actions
  pub stated_is : stated ≡ tree.count
  pub listed_is : listed ≡ length tree.calls
  pub differ : stated ≢ listed

-- all calls name actions, these alone and as many as are stated, and the plan states another cost than theirs
pub record IsMispriced (g : GroundTask) (tree : PlanTree) (stated summed : ℕ) : Type 0 where
  pub actions : List ActionId
  pub named : NameActions g tree.calls actions
  pub only : (other : List ActionId) → NameActions g tree.calls other → other ≡ actions
  pub count : tree.count ≡ length tree.calls
  pub stated_is : tree.cost ≡ Some stated
  pub summed_is : summed ≡ weight g.problem Cost actions
  pub differ : stated ≢ summed

-- the faults of a tree, where this gives the lines of tokens
abbrev pub IsTreeFault : GroundTask → (ℕ → ℕ) → PlanTree → PlanError → Type 0
IsTreeFault g line_of_token tree OtherTask = tree.task.text ≢ g.tree.name.text
IsTreeFault g line_of_token tree (UnknownAction line) = IsOfTask g tree × IsUnknownAt g line_of_token tree.calls line
IsTreeFault g line_of_token tree (WrongCount stated listed) = IsOfTask g tree × IsMiscounted g tree stated listed
IsTreeFault g line_of_token tree (WrongCost stated summed) = IsOfTask g tree × IsMispriced g tree stated summed
IsTreeFault g line_of_token tree _ = ⊥

-- ---- what the bytes say

-- the bytes are a plan file whose tree has the fault
pub record HasTreeFault (g : GroundTask) (bytes : List ℕ) (e : PlanError) : Type 0 where
  pub found : Lexed
  pub tree : PlanTree
  pub file : IsTextOf plans bytes found tree
  pub fault : IsTreeFault g (line_at found) tree e

-- the first fault of the bytes
abbrev pub IsFault : GroundTask → List ℕ → PlanError → Type 0
IsFault g bytes OtherTask = HasTreeFault g bytes OtherTask
IsFault g bytes (UnknownAction line) = HasTreeFault g bytes (UnknownAction line)
IsFault g bytes (WrongCount stated listed) = HasTreeFault g bytes (WrongCount stated listed)
IsFault g bytes (WrongCost stated summed) = HasTreeFault g bytes (WrongCost stated summed)
IsFault g bytes e = IsFileFault bytes e

-- the plan that the bytes are
pub record IsPlan (g : GroundTask) (bytes : List ℕ) (plan : List ActionId) : Type 0 where
  pub found : Lexed
  pub tree : PlanTree
  pub file : IsTextOf plans bytes found tree
  pub plan_of : IsPlanOf g tree plan
