-- Formulas and atoms without a type fault, where each parameter in force stands for an object of its type.
use Rattle.std.specs.Prelude.{◌≡◌, ℕ, ◌<◌, ◌≤◌, List, length, slice_get, Some, None, IsTrue}
use Rattle.ep_binding.specs.Bindings.{IsBinding}
use Rattle.ep_theory.specs.Fits.{fits_in}
use Rattle.ep_tree.specs.Formed.{IsFormedFormula}
use Rattle.ep_tree.specs.Grammar.{formulas}
use Rattle.ep_tree.specs.Marks.{IsShallow}
use Rattle.ep_tree.specs.declared.tree.Name.{Name}
use Rattle.ep_tree.specs.declared.tree.AtomTree.{AtomTree}
use Rattle.ep_tree.specs.declared.tree.ParamTree.{ParamTree}
use Rattle.ep_tree.specs.declared.tree.FormulaTree.{FormulaTree}
use Rattle.ep_tree.specs.declared.tree.TaskTree.{TaskTree}
use Rattle.ep_types.specs.Faults.{first_fault}
use Rattle.ep_types.specs.Names.{Text, declared}
use Rattle.ep_types.specs.Places.{Scope, closed, with_params, at, Agent}
use Rattle.ep_types.specs.Tasks.{HasNoFault, declarations}
use Rattle.ep_types.specs.Uses.{atom_uses, formula_uses}
use Rattle.ep_types.specs.declared.scope.Declared.{Declared}
use Rattle.ep_universe.specs.Objects.{Binding, has_type, object_at, agent_at, agents_of, candidates, bound}
use Rattle.ep_universe.specs.Atoms.{atoms_of, ground_atom, atom_at}
use Rattle.ep_universe.specs.Formulas.{ground_of}
use Rattle.ep_universe.specs.Counts.{ground_count}
use Rattle.ep_universe.specs.Sizes.{IsBuildable}
use Rattle.ep_universe.specs.declared.limits.TheConstants.{MOST_GROUND_NODES}

-- a name stands for an object of a type
pub record StandsFor (d : Declared) (b : Binding) (x kind : Text) : Type 0 where
  pub object : ℕ
  pub is : declared x b ≡ Some object
  pub within : object < length d.objects
  pub has : IsTrue (has_type d kind object)

-- each parameter in force stands for an object of its type, and no other name is bound
pub record Suits (s : Scope) (b : Binding) : Type 0 where
  pub params : (x kind : Text) → declared x s.params ≡ Some kind → StandsFor s.names b x kind
  pub others : (x : Text) → declared x s.params ≡ None → declared x b ≡ None

-- every agent and atom of the ground form is in range, and no group is empty
abbrev pub FormulasFit : Type 0
FormulasFit = (t : TaskTree) → HasNoFault t → (s : Scope) (b : Binding) → s.names ≡ declarations t → Suits s b →
    (f : FormulaTree) → first_fault (formula_uses f s) ≡ None →
    IsTrue (fits_in (length (agents_of s.names)) (length (atoms_of s.names)) (ground_of s.names f b))

-- an atom's number is the place of its ground atom
abbrev pub AtomsStand : Type 0
AtomsStand = (t : TaskTree) → HasNoFault t → (s : Scope) (b : Binding) → s.names ≡ declarations t → Suits s b →
    (a : AtomTree) → first_fault (atom_uses a s) ≡ None →
    slice_get (atoms_of s.names) (atom_at s.names b a) ≡ Some (ground_atom s.names b a)

-- an agent's number is the place of its object among the agents
abbrev pub AgentsStand : Type 0
AgentsStand = (t : TaskTree) → HasNoFault t → (s : Scope) (b : Binding) → s.names ≡ declarations t → Suits s b →
    (x : Name) → first_fault (at x.token (Agent x.text s)) ≡ None →
    slice_get (agents_of s.names) (agent_at s.names b x) ≡ Some (object_at s.names b x.text)

-- the bindings of parameters suit, where no others are in force
abbrev pub BindingsSuit : Type 0
BindingsSuit = (d : Declared) (params : List ParamTree) (objects : List ℕ) → IsBinding (candidates d params) objects →
    Suits (with_params (closed d) params) (bound params objects)

-- a formula that is read and has no type fault can be built where its ground form is small
abbrev pub FormulasBuild : Type 0
FormulasBuild = (d : Declared) (s : Scope) (f : FormulaTree) → IsFormedFormula f → IsShallow (formulas.marks f) →
    first_fault (formula_uses f s) ≡ None → ground_count d f ≤ MOST_GROUND_NODES → IsBuildable d f
