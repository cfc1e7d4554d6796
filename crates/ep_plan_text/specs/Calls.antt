-- The actions that the calls of a plan file name.
use Rattle.std.specs.Prelude.{◌≡◌, ◌≢◌, List, [], ◌∷◌, ◌++◌, Some, All, slice_get}
use Rattle.ep_logic.specs.declared.ids.ActionId.{ActionId}
use Rattle.ep_name.specs.Names.{printed}
use Rattle.ep_tree.specs.declared.tree.CallTree.{CallTree}
use Rattle.ep_types.specs.Atoms.{texts}
use Rattle.ep_types.specs.Names.{Text}
use Rattle.ep_ground.specs.Task.{GroundTask}

-- the printed name that a call writes
abbrev pub name_of : CallTree → Text
name_of c = printed c.name.text (texts c.args)

-- the action has the printed name that the call writes
abbrev pub NamesAction : GroundTask → CallTree → ActionId → Type 0
NamesAction g c a = slice_get g.actions a.n ≡ Some (name_of c)

-- no ground action has it
abbrev pub NamesNone : GroundTask → CallTree → Type 0
NamesNone g c = All (λ known. known ≢ name_of c) g.actions

-- the actions are those that the calls name, one for each, in order
abbrev pub NameActions : GroundTask → List CallTree → List ActionId → Type 0
NameActions g [] [] = Unit {0}
NameActions g [] (a ∷ more) = ⊥
NameActions g (c ∷ cs) [] = ⊥
NameActions g (c ∷ cs) (a ∷ more) = NamesAction g c a × NameActions g cs more

-- the first of the calls that names no ground action
pub record IsFirstUnknown (g : GroundTask) (calls : List CallTree) (call : CallTree) : Type 0 where
  pub before : List CallTree
  pub behind : List CallTree
  pub calls_are : calls ≡ before ++ call ∷ behind
  pub actions : List ActionId
  pub known : NameActions g before actions
  pub unknown : NamesNone g call
