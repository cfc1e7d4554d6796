-- Assignments of an event.
use Rattle.std.specs.Prelude.{ℕ, ◌<◌, Bool, List, ◌==◌}
use Rattle.std.specs.List.{find}
use Rattle.ep_logic.specs.declared.formula.Node.{Node}
use Rattle.ep_theory.specs.Kripke.{Kripke}
use Rattle.ep_theory.specs.Fits.{Fits}
use Rattle.ep_theory.specs.Product.{atom_by}
use Rattle.ep_event.specs.declared.parts.Assign.{Assign}

-- the truth of an atom at w after assignments that all read the old world
abbrev pub atom_with : Kripke → ℕ → List (ℕ × Node) → ℕ → Bool
atom_with S w sets p = atom_by S w p (find (λ set. set.0 == p) sets)

-- the atom and the formula of an assignment fit the state
abbrev pub AssignFits : Kripke → Assign → Type 0
AssignFits S set = (set.atom.n < S.atoms) × Fits S set.value
