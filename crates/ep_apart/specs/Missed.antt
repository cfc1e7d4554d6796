-- Links that may have no answer, as rows of truth values.
use Rattle.std.specs.Prelude.{◌≡◌, ℕ, ◌<◌, Bool, true, false, List, [], length, slice_index_or, Option, is_some}
use Rattle.std.specs.List.{list_all}
use Rattle.ep_logic.specs.Rows.{value_at}
use Rattle.ep_theory.specs.Rising.{IsIn}
use Rattle.ep_theory.specs.Kripke.{Kripke, links_of, successors}
use Rattle.ep_apart.specs.Tables.{cell, in_row, IsAnswered}

abbrev pub bit : List (List Bool) → ℕ → ℕ → Bool
bit rows x y = value_at (slice_index_or rows x []) y

-- n rows of so many values
pub record IsWide (rows : List (List Bool)) (n width : ℕ) : Type 0 where
  pub long : length rows ≡ n
  pub wide : (x : ℕ) → x < n → length (slice_index_or rows x []) ≡ width

-- one row of marks: which of the first n cells have a line
pub record MarksLines (row : List (Option ℕ)) (n : ℕ) (marks : List Bool) : Type 0 where
  pub long : length marks ≡ n
  pub says : (y : ℕ) → y < n → value_at marks y ≡ is_some (in_row row y)

-- for each two of n worlds whether the table has a line that tells the first from the second
pub record MarkLines (table : List (List (Option ℕ))) (n : ℕ) (told : List (List Bool)) : Type 0 where
  pub wide : IsWide told n n
  pub says : (x y : ℕ) → x < n → y < n → bit told x y ≡ is_some (cell table x y)

-- for each row, at which worlds the agent's links lead into the row alone
pub record AreWithin (Q : Kripke) (a : ℕ) (told within : List (List Bool)) : Type 0 where
  pub wide : IsWide within (length told) Q.worlds
  pub says : (x d : ℕ) → x < length told → d < Q.worlds → bit within x d ≡ list_all (value_at (slice_index_or told x [])) (successors (links_of Q a) d)

-- the row is true where one of the chosen rows is
pub record Joins (rows : List (List Bool)) (chosen : List ℕ) (row : List Bool) : Type 0 where
  pub has : (x d : ℕ) → IsIn x chosen → bit rows x d ≡ true → value_at row d ≡ true

-- for each world a row that is true where the row of one of its successors is
pub record AreJoined (Q : Kripke) (a : ℕ) (within rows : List (List Bool)) : Type 0 where
  pub wide : IsWide rows Q.worlds Q.worlds
  pub joins : (c : ℕ) → c < Q.worlds → Joins within (successors (links_of Q a) c) (slice_index_or rows c [])

-- where the row of a world is false, the agent's links of the world are answered
pub record AreMissed (Q : Kripke) (table : List (List (Option ℕ))) (a : ℕ) (rows : List (List Bool)) : Type 0 where
  pub wide : IsWide rows Q.worlds Q.worlds
  pub answered : (c d : ℕ) → c < Q.worlds → d < Q.worlds → bit rows c d ≡ false → IsAnswered Q table a c d

-- such rows for each agent
pub record AllMissed (Q : Kripke) (table : List (List (Option ℕ))) (all : List (List (List Bool))) : Type 0 where
  pub long : length all ≡ Q.agents
  pub each : (a : ℕ) → a < Q.agents → AreMissed Q table a (slice_index_or all a [])
