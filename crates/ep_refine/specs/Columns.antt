-- Numbers of lists of ranks.
use Rattle.std.specs.Prelude.{◌≡◌, ℕ, ◌+◌, ◌<◌, ◌≤◌, List, [], length, slice_index, slice_index_or, map}
use Rattle.std.specs.Ordering.{nat_cmp}
use Rattle.std.specs.Cmp.Lexicographic.{slice_cmp}
use Rattle.ep_theory.specs.Rising.{rising}
use Rattle.ep_theory.specs.Kripke.{Kripke, links_of, successors}

-- the distinct ranks of a world's successors, in rising order
abbrev pub ranks_of : List (ℕ × ℕ) → (ℕ → ℕ) → ℕ → List ℕ
ranks_of pairs rank w = rising nat_cmp (map rank (successors pairs w))

-- a name has a slot, whose first world has this name
abbrev pub HasSlot : List ℕ → List ℕ → List ℕ → ℕ → Type 0
HasSlot names slots firsts name = (slice_index slots name < length firsts) × (slice_index names (slice_index firsts (slice_index slots name)) ≡ name)

-- the name of the world has a slot besides those that had one
pub record Slotted (names : List ℕ) (w : ℕ) (slots firsts slots' firsts' : List ℕ) : Type 0 where
  pub long : length slots' ≡ length slots
  pub few : length firsts' ≤ length firsts + 1
  pub here : HasSlot names slots' firsts' (slice_index names w)
  pub keeps : (name : ℕ) → HasSlot names slots firsts name → HasSlot names slots' firsts' name

-- each of these worlds has a number, and the numbers are ordered as the lists of ranks
pub record OrdersRanks (pairs : List (ℕ × ℕ)) (rank : ℕ → ℕ) (worlds numbers : List ℕ) : Type 0 where
  pub one_each : length numbers ≡ length worlds
  pub ordered : (i j : ℕ) → i < length worlds → j < length worlds → nat_cmp (slice_index numbers i) (slice_index numbers j) ≡
      slice_cmp nat_cmp (ranks_of pairs rank (slice_index worlds i)) (ranks_of pairs rank (slice_index worlds j))

-- such numbers for each agent
pub record AreColumns (S : Kripke) (rank : ℕ → ℕ) (worlds : List ℕ) (columns : List (List ℕ)) : Type 0 where
  pub one_each : length columns ≡ S.agents
  pub each : (a : ℕ) → a < length columns → OrdersRanks (links_of S a) rank worlds (slice_index_or columns a [])
