-- Worlds that are taken out of a row of truth values.
use Rattle.std.specs.Prelude.{ℕ, Bool, false, List, [], ◌∷◌, slice_set, if◌then◌else◌}
use Rattle.ep_logic.specs.Rows.{value_at}

-- the row, false at these places
abbrev pub without : List ℕ → List Bool → List Bool
without [] row = row
without (w ∷ ws) row = without ws (if value_at row w then slice_set row w false else row)

-- those of the places where the row is true, each once
abbrev pub taken : List ℕ → List Bool → List ℕ
taken [] row = []
taken (w ∷ ws) row = if value_at row w then w ∷ taken ws (slice_set row w false) else taken ws row
