-- Worlds in blocks: those of equal rank stand side by side, and blocks stand in the order of their ranks.
use Rattle.std.specs.Prelude.{◌≡◌, ℕ, ◌+◌, ◌-◌, ◌<◌, ◌≤◌, ◌⊎◌, Bool, List, length, slice_index, if◌then◌else◌}
use Rattle.std.specs.Ordering.{nat_cmp, ordering_then}
use Rattle.ep_logic.specs.Numbers.{has_number}
use Rattle.ep_kripke.specs.declared.limits.TheConstants.{MOST_WORLDS}
use Rattle.ep_refine.specs.declared.blocks.Blocks.{Blocks}

-- `order` has the worlds by place and `place` the place of each world. The block of a rank goes from its start to its end, and has the place of
-- that number; each world stands in the block of its rank, and the worlds of a block have one rank.
pub record IsPartition (n : ℕ) (order place rank start end : ℕ → ℕ) : Type 0 where
  pub placed : (w : ℕ) → w < n → (place w < n) × (order (place w) ≡ w)
  pub ordered : (p : ℕ) → p < n → (order p < n) × (place (order p) ≡ p)
  pub start_rank : (w : ℕ) → w < n → start (rank w) ≤ rank w
  pub rank_end : (w : ℕ) → w < n → rank w < end (rank w)
  pub end_in : (w : ℕ) → w < n → end (rank w) ≤ n
  pub start_place : (w : ℕ) → w < n → start (rank w) ≤ place w
  pub place_end : (w : ℕ) → w < n → place w < end (rank w)
  pub alike : (w p : ℕ) → w < n → start (rank w) ≤ p → p < end (rank w) → rank (order p) ≡ rank w

pub record AreBlocks (n : ℕ) (b : Blocks) : Type 0 where
  pub few : n ≤ MOST_WORLDS
  pub orders : length b.order.items ≡ n
  pub places : length b.place.items ≡ n
  pub ranked : length b.ranks.items ≡ n
  pub started : length b.starts.items ≡ n
  pub ended : length b.ends.items ≡ n
  pub parts : IsPartition n (slice_index b.order.items) (slice_index b.place.items) (slice_index b.ranks.items) (slice_index b.starts.items) (slice_index b.ends.items)

-- the block of a world
abbrev pub rank_of : Blocks → ℕ → ℕ
rank_of b w = slice_index b.ranks.items w

abbrev pub start_of : Blocks → ℕ → ℕ
start_of b w = slice_index b.starts.items (slice_index b.ranks.items w)

abbrev pub end_of : Blocks → ℕ → ℕ
end_of b w = slice_index b.ends.items (slice_index b.ranks.items w)

-- the place of the i-th world that is cut off from a block, in front or behind
abbrev pub target_of : Bool → ℕ → ℕ → ℕ → ℕ
target_of front from to i = if front then from + i else (to - 1 - i)

-- where a block is cut from which some worlds are cut off, in front or behind
abbrev pub middle_at : Bool → ℕ → ℕ → ℕ → ℕ
middle_at front from to len = if front then from + len else (to - len)

-- on which side of a cut a world stands: the worlds that are cut off go in front of the others, or behind them
abbrev pub side_of : Bool → List ℕ → ℕ → ℕ
side_of front worlds w = if has_number worlds w then (if front then 0 else 1) else (if front then 1 else 0)

-- worlds of one block, each once
pub record AreOfOne (n : ℕ) (rank : ℕ → ℕ) (worlds : List ℕ) : Type 0 where
  pub within : (i : ℕ) → i < length worlds → slice_index worlds i < n
  pub distinct : (i j : ℕ) → i < j → j < length worlds → slice_index worlds i ≡ slice_index worlds j → ⊥
  pub one : (i : ℕ) → i < length worlds → rank (slice_index worlds i) ≡ rank (slice_index worlds 0)

-- a block is cut: the ranks order the worlds as before and then by their sides, and no block reaches out of the one that it comes from
pub record IsCut (n : ℕ) (side : ℕ → ℕ) (before after : Blocks) : Type 0 where
  pub valid : AreBlocks n after
  pub ordered : (u v : ℕ) → u < n → v < n → nat_cmp (rank_of after u) (rank_of after v) ≡ ordering_then (nat_cmp (rank_of before u) (rank_of before v)) (nat_cmp (side u) (side v))
  pub from : (u : ℕ) → u < n → start_of before u ≤ start_of after u
  pub to : (u : ℕ) → u < n → end_of after u ≤ end_of before u

-- a block from one place to another is cut in the middle: its worlds in front of the cut are on side 0, those behind it on side 1, and all others on one side
pub record SidesAt (n : ℕ) (place : ℕ → ℕ) (from middle to : ℕ) (side : ℕ → ℕ) : Type 0 where
  pub out : ℕ
  pub low : (u : ℕ) → u < n → from ≤ place u → place u < middle → side u ≡ 0
  pub high : (u : ℕ) → u < n → middle ≤ place u → place u < to → side u ≡ 1
  pub outside : (u : ℕ) → u < n → (place u < from) ⊎ (to ≤ place u) → side u ≡ out
