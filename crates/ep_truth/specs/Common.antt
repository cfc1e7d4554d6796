-- The worlds from which every walk of a group stays in a row.
use Rattle.std.specs.Prelude.{ℕ, ◌<◌, ◌↔◌, ◌⊎◌, Bool, not, List, IsTrue}
use Rattle.ep_theory.specs.Rising.{IsIn}
use Rattle.ep_theory.specs.Kripke.{Kripke, links_of}
use Rattle.ep_theory.specs.Walks.{IsStep, IsWalk, last_of}
use Rattle.ep_logic.specs.Rows.{value_at, Within}
use Rattle.ep_kripke.specs.Sources.{row_at}

-- every walk of the group from the world ends where the row is true
abbrev pub AllWalks : Kripke → List Bool → List Bool → ℕ → Type 0
AllWalks S g row w = (vs : List ℕ) → IsWalk S g w vs → IsTrue (value_at row (last_of w vs))

-- no link of the group leaves the row
abbrev pub IsClosed : Kripke → List Bool → List Bool → Type 0
IsClosed S g row = (w v : ℕ) → IsStep S g w v → IsTrue (value_at row w) → IsTrue (value_at row v)

-- the row is closed within the first one, and each row that is so is within it
pub record IsGreatestClosed (S : Kripke) (g inner row : List Bool) : Type 0 where
  pub within : Within row inner
  pub closed : IsClosed S g row
  pub greatest : (other : List Bool) → Within other inner → IsClosed S g other → Within other row

-- from the same worlds every walk of the group stays in the one row and in the other
abbrev pub HaveSameWalks : Kripke → List Bool → List Bool → List Bool → Type 0
HaveSameWalks S g old new = (w : ℕ) → AllWalks S g new w ↔ AllWalks S g old w

-- the agent's links from worlds of the row are among the sources, beside those that were
abbrev pub GainsLinks : Kripke → ℕ → List Bool → List (List ℕ) → List (List ℕ) → Type 0
GainsLinks S a row old new = (w v : ℕ) → v < S.worlds →
    IsIn w (row_at new v) ↔ (IsIn w (row_at old v) ⊎ (IsTrue (value_at row w) × IsIn (w, v) (links_of S a)))

-- the sources of each world are the worlds of the row from which the group steps to it
abbrev pub LeadBack : Kripke → List Bool → List Bool → List (List ℕ) → Type 0
LeadBack S g row rows = (w v : ℕ) → v < S.worlds → IsIn w (row_at rows v) ↔ (IsTrue (value_at row w) × IsStep S g w v)

-- whether the row is false at the place
abbrev pub is_out : List Bool → ℕ → Bool
is_out row w = not (value_at row w)
