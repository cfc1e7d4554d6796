-- Rows that are named: for each world the number of its row, and the rows.
use Rattle.std.specs.Prelude.{◌≡◌, ℕ, ◌<◌, ◌≤◌, ◌+◌, Bool, List, [], length, map, sum_by, slice_index_or}
use Rattle.std.specs.List.{AllByRecursion}
use Rattle.ep_logic.specs.Rows.{true_places}
use Rattle.ep_kripke.specs.declared.limits.TheConstants.{MOST_WORLDS}

-- the places where a row is true, as a word that does not unfold
unfoldable pub members : List Bool → List ℕ
members row = true_places row

-- for each name the row that it names
abbrev pub named_rows : List ℕ → List (List ℕ) → List (List ℕ)
named_rows names rows = map (λ r. slice_index_or rows r []) names

-- there are few rows, each name has one, and `links` is how long the rows of the names are together
pub record IsNamed (names : List ℕ) (rows : List (List ℕ)) (links : ℕ) : Type 0 where
  pub few : length rows ≤ MOST_WORLDS
  pub within : AllByRecursion (λ i. i < length rows) names
  pub count : links ≡ sum_by length (named_rows names rows)

-- what contracts see of rows that are being named: how many worlds there are, and the rows so far
pub record RowsSeen : Type 0 where
  pub worlds : ℕ
  pub rows : List (List ℕ)

-- the first rows are those that there were, and there is at most one more
pub record Extends {A : Type 0} (old new : List (List A)) : Type 0 where
  pub long : length old ≤ length new
  pub one : length new ≤ length old + 1
  pub same : (i : ℕ) → i < length old → slice_index_or new i [] ≡ slice_index_or old i []
