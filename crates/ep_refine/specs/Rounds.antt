-- Rounds of a refinement: which worlds are signed, and which move to pieces that are not kept.
use Rattle.std.specs.Prelude.{◌≡◌, ℕ, suc, ◌-◌, ◌*◌, ◌<◌, ◌≤◌, ◌⊎◌, ◌==◌, Bool, true, false, List, length, filter, slice_index, sum_by}
use Rattle.ep_theory.specs.Rising.{IsIn}
use Rattle.ep_theory.specs.Kripke.{Kripke}
use Rattle.ep_theory.specs.Ranks.{RanksAt, signature}
use Rattle.ep_refine.specs.declared.blocks.Blocks.{Blocks}
use Rattle.ep_refine.specs.Blocks.{AreBlocks, rank_of, start_of, end_of}
use Rattle.ep_refine.specs.Groups.{IsWithin, AreDistinct}
use Rattle.ep_refine.specs.Touching.{is_listed}

-- how many links lead to a world
abbrev pub degree : Kripke → ℕ → ℕ
degree S v = sum_by (λ pairs. length (filter (λ p. p.1 == v) pairs)) S.links

-- worlds of one rank that are left have one signature
abbrev pub RestAlike : Kripke → (ℕ → ℕ) → List Bool → Type 0
RestAlike S rank row = (u v : ℕ) → u < S.worlds → v < S.worlds → is_listed row u ≡ false → is_listed row v ≡ false → rank u ≡ rank v → signature S rank u ≡ signature S rank v

-- how many worlds the block of a world has
abbrev pub size_of : Blocks → ℕ → ℕ
size_of b u = end_of b u - start_of b u

-- no other world is in the block of the world
abbrev pub IsAlone : Blocks → ℕ → Type 0
IsAlone b u = end_of b u - start_of b u ≡ 1

-- worlds that are left, one for each block with a listed world and one that is left
pub record AreRests (n : ℕ) (b : Blocks) (row : List Bool) (worlds rests : List ℕ) : Type 0 where
  pub within : IsWithin n rests
  pub apart : (i j : ℕ) → i < j → j < length rests → rank_of b (slice_index rests i) ≡ rank_of b (slice_index rests j) → ⊥
  pub unmarked : (k : ℕ) → k < length rests → is_listed row (slice_index rests k) ≡ false
  pub each : (u w : ℕ) → u < n → is_listed row u ≡ false → IsIn w worlds → rank_of b w ≡ rank_of b u → (r : ℕ) × IsIn r rests × (rank_of b r ≡ rank_of b u)

-- the blocks of the listed worlds, each from a place to another
abbrev pub AreSpans : Blocks → List ℕ → List (ℕ × ℕ) → Type 0
AreSpans b worlds spans = ((w : ℕ) → IsIn w worlds → IsIn (start_of b w, end_of b w) spans) × ((s : ℕ × ℕ) → IsIn s spans → (w : ℕ) × IsIn w worlds × (start_of b w ≡ s.0) × (end_of b w ≡ s.1))

-- no block reaches out of the places from one to another
abbrev pub IsClosed : Blocks → ℕ → ℕ → Type 0
IsClosed b from to = (p : ℕ) → from ≤ p → p < to → (from ≤ start_of b (slice_index b.order.items p)) × (end_of b (slice_index b.order.items p) ≤ to)

-- of the blocks between two places one is kept: any two worlds there that are not listed are of one block, and each listed one is in a block at most half as large
pub record Leaves (b : Blocks) (from to : ℕ) (before after : List ℕ) : Type 0 where
  pub keeps : (u : ℕ) → IsIn u before → IsIn u after
  pub one : (p q : ℕ) → from ≤ p → p < to → from ≤ q → q < to → (IsIn (slice_index b.order.items p) after → ⊥) → (IsIn (slice_index b.order.items q) after → ⊥) → rank_of b (slice_index b.order.items p) ≡ rank_of b (slice_index b.order.items q)
  pub only : (u : ℕ) → IsIn u after → IsIn u before ⊎ ((from ≤ slice_index b.place.items u) × (slice_index b.place.items u < to) × (2 * size_of b u ≤ to - from))

-- what the first i worlds give: the ranks that are seen are theirs
pub record Seen (n : ℕ) (b : Blocks) (row : List Bool) (ws : List ℕ) (seen : List Bool) (rests : List ℕ) (spans : List (ℕ × ℕ)) (i : ℕ) : Type 0 where
  pub long : length seen ≡ n
  pub within : IsWithin n rests
  pub apart : (j k : ℕ) → j < k → k < length rests → rank_of b (slice_index rests j) ≡ rank_of b (slice_index rests k) → ⊥
  pub unmarked : (k : ℕ) → k < length rests → is_listed row (slice_index rests k) ≡ false
  pub few : length rests ≤ i
  pub has : (k : ℕ) → k < i → is_listed seen (rank_of b (slice_index ws k)) ≡ true
  pub rest_has : (k : ℕ) → k < length rests → is_listed seen (rank_of b (slice_index rests k)) ≡ true
  pub from : (c : ℕ) → c < n → is_listed seen c ≡ true → (k : ℕ) × (k < i) × (rank_of b (slice_index ws k) ≡ c)
  pub each : (u k : ℕ) → u < n → is_listed row u ≡ false → k < i → rank_of b (slice_index ws k) ≡ rank_of b u → (r : ℕ) × IsIn r rests × (rank_of b r ≡ rank_of b u)
  pub spanned : (k : ℕ) → k < i → IsIn (start_of b (slice_index ws k), end_of b (slice_index ws k)) spans
  pub spans_from : (s : ℕ × ℕ) → IsIn s spans → (k : ℕ) × (k < i) × (start_of b (slice_index ws k) ≡ s.0) × (end_of b (slice_index ws k) ≡ s.1)

-- places that are the blocks of worlds which may have split
pub record IsSpan (n : ℕ) (b : Blocks) (s : ℕ × ℕ) : Type 0 where
  pub some : s.0 < s.1
  pub inside : s.1 ≤ n
  pub closed : IsClosed b s.0 s.1

-- of each span one block is kept
pub record AreLeft (b : Blocks) (spans : List (ℕ × ℕ)) (moved : List ℕ) : Type 0 where
  pub one : (s : ℕ × ℕ) → IsIn s spans → (p q : ℕ) → s.0 ≤ p → p < s.1 → s.0 ≤ q → q < s.1 → (IsIn (slice_index b.order.items p) moved → ⊥) → (IsIn (slice_index b.order.items q) moved → ⊥) → rank_of b (slice_index b.order.items p) ≡ rank_of b (slice_index b.order.items q)
  pub only : (u : ℕ) → IsIn u moved → (s : ℕ × ℕ) × IsIn s spans × (s.0 ≤ slice_index b.place.items u) × (slice_index b.place.items u < s.1) × (2 * size_of b u ≤ s.1 - s.0)

-- what a round leaves: the next ranks, and the worlds that moved to pieces that are not kept. Two worlds of one class that did not move are still of
-- one class, classes do not grow, and the class of a world that moved is at most half as large as before.
pub record IsRound (S : Kripke) (before after : Blocks) (moved : List ℕ) : Type 0 where
  pub valid : AreBlocks S.worlds after
  pub next : (k : ℕ) → RanksAt S k (rank_of before) → RanksAt S (suc k) (rank_of after)
  pub within : IsWithin S.worlds moved
  pub distinct : AreDistinct moved
  pub kept : (u x : ℕ) → u < S.worlds → x < S.worlds → (IsIn u moved → ⊥) → (IsIn x moved → ⊥) → rank_of before u ≡ rank_of before x → rank_of after u ≡ rank_of after x
  pub shrinks : (u : ℕ) → u < S.worlds → size_of after u ≤ size_of before u
  pub halves : (u : ℕ) → IsIn u moved → 2 * size_of after u ≤ size_of before u
