-- What the definitions say in other words.
use Rattle.std.specs.Prelude.{◌≡◌, ℕ, ◌<◌, List, [], ◌∷◌, ◌++◌, Some, None, AllPairs, Contains}
use Rattle.ep_tree.specs.Grammar.{Reads, tasks, formulas}
use Rattle.ep_tree.specs.declared.tree.FormulaTree.{FormulaTree}
use Rattle.ep_tree.specs.declared.tree.TaskTree.{TaskTree}
use Rattle.ep_types.specs.Places.{Scope, Use, Uses, nothing, one, both}
use Rattle.ep_types.specs.Faults.{fault_at, first_fault}
use Rattle.ep_types.specs.Tasks.{task_uses}
use Rattle.ep_types.specs.Uses.{formula_uses}
use Rattle.ep_types.specs.declared.fault.TypeFault.{TypeFault}

-- what stands at the tokens, one after another
abbrev pub in_order : Uses → List Use
in_order nothing = []
in_order (one u) = u ∷ []
in_order (both us vs) = in_order us ++ in_order vs

abbrev pub HaveNone : List Use → Type 0
HaveNone [] = Unit {0}
HaveNone (u ∷ us) = (fault_at u ≡ None) × HaveNone us

-- a token with this fault, and none before it has one
pub record IsFirst (us : List Use) (f : TypeFault) (t : ℕ) : Type 0 where
  pub before : List Use
  pub here : Use
  pub after : List Use
  pub is : us ≡ before ++ here ∷ after
  pub none_before : HaveNone before
  pub fault : fault_at here ≡ Some f
  pub token : here.token ≡ t

abbrev pub TellsFirst : Type 0
TellsFirst = (us : Uses) (f : TypeFault) (t : ℕ) → first_fault us ≡ Some (f, t) → IsFirst (in_order us) f t

abbrev pub TellsNone : Type 0
TellsNone = (us : Uses) → first_fault us ≡ None → HaveNone (in_order us)

-- the token numbers rise
abbrev pub Rise : List Use → Type 0
Rise us = AllPairs (λ u v. u.token < v.token) us

abbrev pub TaskTokensRise : Type 0
TaskTokensRise = (tokens : List (List ℕ)) (t : TaskTree) → Reads tasks tokens t → Rise (in_order (task_uses t))

abbrev pub FormulaTokensRise : Type 0
FormulaTokensRise = (tokens : List (List ℕ)) (f : FormulaTree) → Reads formulas tokens f → (s : Scope) → Rise (in_order (formula_uses f s))

-- where they rise, no token with a smaller number than that of the first fault has a fault
abbrev pub FirstIsLeast : Type 0
FirstIsLeast = (us : Uses) (f : TypeFault) (t : ℕ) → Rise (in_order us) → first_fault us ≡ Some (f, t) →
    (u : Use) → Contains (in_order us) u → u.token < t → fault_at u ≡ None
