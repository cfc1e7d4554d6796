-- Rows of truth values over the worlds of a state.
use Rattle.std.specs.Prelude.{◌≡◌, ℕ, ◌<◌, Bool, List, length}
use Rattle.std.specs.List.{list_all, list_any}
use Rattle.ep_logic.specs.Rows.{value_at}
use Rattle.ep_logic.specs.declared.formula.Node.{Node}
use Rattle.ep_theory.specs.Kripke.{Kripke, atom_at, links_of, successors}
use Rattle.ep_theory.specs.Tested.{is_true}

-- the row has a place for each number below n, and there the value of the test
pub record HasValues (n : ℕ) (p : ℕ → Bool) (row : List Bool) : Type 0 where
  pub long : length row ≡ n
  pub each : (w : ℕ) → w < n → value_at row w ≡ p w

-- whether the formula is true at the world
abbrev pub formula_test : Kripke → Node → ℕ → Bool
formula_test S f w = is_true S w f

-- whether all the formulas are true at the world
abbrev pub all_test : Kripke → List Node → ℕ → Bool
all_test S fs w = list_all (is_true S w) fs

-- whether one of the formulas is true at the world
abbrev pub any_test : Kripke → List Node → ℕ → Bool
any_test S fs w = list_any (is_true S w) fs

-- whether the atom is true at the world
abbrev pub atom_test : Kripke → ℕ → ℕ → Bool
atom_test S p w = atom_at S w p

-- whether the row is true at each world to which the agent links the world
abbrev pub knows_test : Kripke → ℕ → List Bool → ℕ → Bool
knows_test S a row w = list_all (value_at row) (successors (links_of S a) w)

-- the truth of the formula at each world
abbrev pub IsLabel : Kripke → Node → List Bool → Type 0
IsLabel S f row = HasValues S.worlds (formula_test S f) row
