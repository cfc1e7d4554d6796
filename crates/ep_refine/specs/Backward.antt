-- The links of an agent backwards, by way of its rows.
use Rattle.std.specs.Prelude.{◌≡◌, ℕ, ◌+◌, ◌<◌, ◌≤◌, Bool, true, List, length, slice_index, slice_index_or, sum_by}
use Rattle.ep_theory.specs.Rising.{IsIn}
use Rattle.ep_theory.specs.Kripke.{Kripke, links_of}
use Rattle.ep_kripke.specs.declared.limits.TheConstants.{MOST_WORLDS}
use Rattle.ep_kripke.specs.Sources.{row_at}
use Rattle.ep_refine.specs.declared.backward.Backward.{Backward}
use Rattle.ep_refine.specs.Touching.{is_listed}

-- of the first i worlds, each is among those of the row that it names
pub record Users (names : List ℕ) (count i : ℕ) (users : List (List ℕ)) : Type 0 where
  pub long : length users ≡ count
  pub counted : sum_by length users ≤ i
  pub every : (w : ℕ) → w < i → IsIn w (row_at users (slice_index names w))
  pub only : (r w : ℕ) → IsIn w (row_at users r) → (w < i) × (slice_index names w ≡ r)

-- a world is held by rows that have it, and by all of these that are not left
pub record Holding (rows : List (List ℕ)) (left : List Bool) (holders : List (List ℕ)) : Type 0 where
  pub long : length left ≡ length rows
  pub only : (v r : ℕ) → IsIn r (row_at holders v) → (r < length rows) × IsIn v (row_at rows r)
  pub every : (r v : ℕ) → r < length rows → is_listed left r ≡ true → IsIn v (row_at rows r) → IsIn r (row_at holders v)

-- a row holds its worlds besides
pub record HoldsMore (rows : List (List ℕ)) (name : ℕ) (before after : List Bool) (old new : List (List ℕ)) : Type 0 where
  pub holding : Holding rows after new
  pub long : length new ≡ length old
  pub counted : sum_by length new ≤ sum_by length old + length (row_at rows name)
  pub here : is_listed after name ≡ true
  pub keeps : (r : ℕ) → is_listed before r ≡ true → is_listed after r ≡ true

-- for each world the rows with it, of those that a world names
pub record Holders (names : List ℕ) (rows holders : List (List ℕ)) : Type 0 where
  pub long : length holders ≡ length names
  pub only : (v r : ℕ) → IsIn r (row_at holders v) → (r < length rows) × IsIn v (row_at rows r)
  pub every : (w v : ℕ) → w < length names → IsIn v (row_at rows (slice_index names w)) → IsIn (slice_index names w) (row_at holders v)

-- there are n worlds, and each world and row that is given is one of these
pub record IsShaped (n : ℕ) (back : Backward) : Type 0 where
  pub few : back.count ≤ MOST_WORLDS
  pub worlds : length back.holders ≡ n
  pub rows : length back.users ≡ back.count
  pub rows_within : (v r : ℕ) → IsIn r (row_at back.holders v) → r < back.count
  pub worlds_within : (r w : ℕ) → IsIn w (row_at back.users r) → w < n

-- a pair leads from w to v exactly where w has a row with v
pub record LeadsBack (pairs : List (ℕ × ℕ)) (back : Backward) : Type 0 where
  pub every : (w v : ℕ) → IsIn (w, v) pairs → (r : ℕ) × IsIn r (row_at back.holders v) × IsIn w (row_at back.users r)
  pub only : (w v r : ℕ) → IsIn r (row_at back.holders v) → IsIn w (row_at back.users r) → IsIn (w, v) pairs

-- the links of each agent
pub record AreBackward (S : Kripke) (all : List Backward) : Type 0 where
  pub one_each : length all ≡ S.agents
  pub shaped : (a : ℕ) (d : Backward) → a < length all → IsShaped S.worlds (slice_index_or all a d)
  pub back : (a : ℕ) (d : Backward) → a < length all → LeadsBack (links_of S a) (slice_index_or all a d)
