-- The key of a state: the places of its rows in a table.
use Rattle.std.specs.Prelude.{◌≡◌, ℕ, Bool, List, [], ◌∷◌, ◌++◌, map, Some, slice_get}
use Rattle.std.specs.List.{flat_map}
use Rattle.ep_logic.specs.Numbers.{has_number, table}
use Rattle.ep_theory.specs.Kripke.{Kripke, successors}

-- the row of n values that is true at these numbers
abbrev pub row_of : ℕ → List ℕ → List Bool
row_of n numbers = table (has_number numbers) n

-- for each of n worlds, the row of its successors over the worlds
abbrev pub successor_rows : ℕ → List (ℕ × ℕ) → List (List Bool)
successor_rows n pairs = table (λ w. row_of n (successors pairs w)) n

-- for each world its truth row; for each agent, for each world, the row of its successors; the row of the designated
-- worlds
unfoldable pub state_rows : Kripke → List (List Bool)
state_rows S = S.truth ++ (flat_map (successor_rows S.worlds) S.links ++ row_of S.worlds S.designated ∷ [])

-- at these places of a table stand these rows
abbrev pub ArePlaces : List (List Bool) → List ℕ → List (List Bool) → Type 0
ArePlaces rows places these = map (slice_get rows) places ≡ map Some these

-- the numbers of worlds, agents and atoms, and then the places of the rows
pub record IsKeyOf (rows : List (List Bool)) (S : Kripke) (key : List ℕ) : Type 0 where
  pub places : List ℕ
  pub whole : key ≡ S.worlds ∷ S.agents ∷ S.atoms ∷ places
  pub stand : ArePlaces rows places (state_rows S)
