-- What stands at the tokens of a tree, and in which scope.
use Rattle.std.specs.Prelude.{ℕ, Bool, true, false, List, [], ◌∷◌, ◌++◌, Option}
use Rattle.std.specs.Option.{option_or}
use Rattle.ep_types.specs.Names.{Text, Typings, declared}
use Rattle.ep_types.specs.declared.scope.Declared.{Declared}
use Rattle.ep_types.specs.declared.scope.Frame.{Frame}
use Rattle.ep_tree.specs.declared.tree.ParamTree.{ParamTree}

-- the names that are declared, the parameters in force, and whether knowledge is allowed
pub record Scope : Type 0 where
  pub names : Declared
  pub params : Typings
  pub knowledge : Bool

abbrev pub scope : Declared → Frame → Scope
scope d f = record { names = d; params = f.params; knowledge = f.knowledge }

-- where no parameter is in force
abbrev pub closed : Declared → Scope
closed d = record { names = d; params = []; knowledge = true }

-- and no knowledge is allowed
abbrev pub objective : Declared → Scope
objective d = record { names = d; params = []; knowledge = false }

abbrev pub with_param : Scope → ParamTree → Scope
with_param s p = record s { params = s.params ++ (p.name.text, p.kind.text) ∷ [] }

abbrev pub with_params : Scope → List ParamTree → Scope
with_params s [] = s
with_params s (p ∷ ps) = with_params (with_param s p) ps

-- the type of a parameter in force, or else of an object
abbrev pub type_of : Scope → Text → Option Text
type_of s x = option_or (declared x s.params) (declared x s.names.objects)

-- what stands at a token, with what it is judged by
pub data Place : Type 0 where
  -- a declared type, object, fluent, schema, world or event, with the names that its list already has
  NewName : Text → List Text → Place
  -- a parameter, with its number in its list
  NewParam : ℕ → Text → Scope → Place
  -- a parameter type of a fluent, with its number in its list, and the declared types
  ParamType : ℕ → Text → List Text → Place
  -- a used type, world or event, with the names that are declared in its list
  UsedName : Text → List Text → Place
  -- a parameter or an object in an equality
  UsedObject : Text → Scope → Place
  -- the fluent of an atom, with the number of arguments
  UsedFluent : Text → ℕ → Scope → Place
  -- the fluent of a fact, with its arguments and the varied atoms
  Fact : Text → List Text → List (List Text) → Scope → Place
  -- an argument, with the type that is declared at its place
  Argument : Text → Text → Scope → Place
  -- a name after `knows` or in a group
  Agent : Text → Scope → Place
  -- the brace of a group, with the number of members
  Group : ℕ → Place
  -- `knows` or `common`, with whether knowledge is allowed
  Knowledge : Bool → Place

pub record Use : Type 0 where
  pub token : ℕ
  pub place : Place

-- what stands at some tokens, in file order
pub data Uses : Type 0 where
  nothing : Uses
  one : Use → Uses
  both : Uses → Uses → Uses

abbrev pub at : ℕ → Place → Uses
at t p = one (record { token = t; place = p })

-- what stands at the items of a list, one after another
abbrev pub each : {X : Type 0} → (X → Uses) → List X → Uses
each u [] = nothing
each u (x ∷ xs) = both (u x) (each u xs)
