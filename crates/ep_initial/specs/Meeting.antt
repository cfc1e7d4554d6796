-- Whether a formula without knowledge is true where the atoms have given values.
use Rattle.std.specs.Prelude.{ℕ, Bool, false, List, [], ◌∷◌, length, IsTrue}
use Rattle.ep_theory.specs.Fits.{fits_in}
use Rattle.ep_theory.specs.Kripke.{Kripke}
use Rattle.ep_logic.specs.Numbers.{pairs_where, table}
use Rattle.ep_theory.specs.Tested.{is_true}
use Rattle.ep_tree.specs.declared.tree.FormulaTree.{FormulaTree}
use Rattle.ep_types.specs.declared.scope.Declared.{Declared}
use Rattle.ep_universe.specs.Atoms.{atoms_of}
use Rattle.ep_universe.specs.Formulas.{ground_of}
use Rattle.ep_universe.specs.Objects.{agents_of}
use Rattle.ep_universe.specs.Sizes.{IsBuildable}

-- the state whose worlds have these truth lists, where each agent links the worlds that its test links
abbrev pub state_where : ℕ → ℕ → List (List Bool) → (ℕ → ℕ → ℕ → Bool) → List ℕ → Kripke
state_where agents atoms rows linked designated = record {
  worlds = length rows;
  agents = agents;
  atoms = atoms;
  truth = rows;
  links = table (λ a. pairs_where (linked a) (length rows)) agents;
  designated = designated;
}

-- where nobody links worlds
abbrev pub unlinked : ℕ → ℕ → List (List Bool) → Kripke
unlinked agents atoms rows = state_where agents atoms rows (λ a v w. false) (0 ∷ [])

-- Whether a formula is true where the atoms have these values, in the state of that one world without links. The law and
-- the formula of the designated worlds have no knowledge in them, so other worlds and links do not matter.
abbrev pub meets : Declared → FormulaTree → List Bool → Bool
meets d f row = is_true (unlinked (length (agents_of d)) (length (atoms_of d)) (row ∷ [])) 0 (ground_of d f [])

-- a formula whose ground form can be built, and whose agents and atoms are the task's
pub record IsGroundable (d : Declared) (f : FormulaTree) : Type 0 where
  pub buildable : IsBuildable d f
  pub fits : IsTrue (fits_in (length (agents_of d)) (length (atoms_of d)) (ground_of d f []))
