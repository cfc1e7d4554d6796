-- Worlds that are listed by groups.
use Rattle.std.specs.Prelude.{◌≡◌, ℕ, ◌<◌, ◌≤◌, ◌↔◌, Bool, true, false, List, length, slice_index, min}
use Rattle.std.specs.Ordering.{nat_cmp, ordering_then}

-- A list of worlds in the order of their groups g: all that are listed, and of each class with a listed world and one that is left, one that
-- is left. Worlds of one class that are left have one group, and the groups put the classes in their order.
pub record Suits (n : ℕ) (old g : ℕ → ℕ) (marked : ℕ → Bool) (ws : List ℕ) : Type 0 where
  pub within : (k : ℕ) → k < length ws → slice_index ws k < n
  pub sorted : (j k : ℕ) → j ≤ k → k < length ws → g (slice_index ws j) ≤ g (slice_index ws k)
  pub listed : (u : ℕ) → u < n → marked u ≡ true → (k : ℕ) × (k < length ws) × (slice_index ws k ≡ u)
  pub resting : (u v : ℕ) → u < n → v < n → marked u ≡ false → marked v ≡ false → old u ≡ old v → g u ≡ g v
  pub chosen : (u k : ℕ) → u < n → marked u ≡ false → k < length ws → old (slice_index ws k) ≡ old u → (r : ℕ) × (r < length ws) × (marked (slice_index ws r) ≡ false) × (old (slice_index ws r) ≡ old u)
  pub classes : (u v : ℕ) → u < n → v < n → old u < old v → g u < g v

-- the numbers tell the groups of the listed worlds apart
abbrev pub Agrees : (ℕ → ℕ) → List ℕ → List ℕ → Type 0
Agrees g groups ws = (j k : ℕ) → j < length ws → k < length ws → (slice_index groups j ≡ slice_index groups k) ↔ (g (slice_index ws j) ≡ g (slice_index ws k))

-- no world is listed twice
abbrev pub AreDistinct : List ℕ → Type 0
AreDistinct ws = (i j : ℕ) → i < j → j < length ws → slice_index ws i ≡ slice_index ws j → ⊥

-- the worlds are below n
abbrev pub IsWithin : ℕ → List ℕ → Type 0
IsWithin n ws = (k : ℕ) → k < length ws → slice_index ws k < n

-- the groups of the worlds before place i are below t, and those from there on are not
pub record Turned (g : ℕ → ℕ) (ws : List ℕ) (t i : ℕ) : Type 0 where
  pub before : (k : ℕ) → k < i → k < length ws → g (slice_index ws k) < t
  pub ahead : (k : ℕ) → i ≤ k → k < length ws → t ≤ g (slice_index ws k)

-- `now` orders the worlds by `old`, and worlds of one class by their groups below t; all groups from t on are still one
abbrev pub Refined : ℕ → (ℕ → ℕ) → (ℕ → ℕ) → (ℕ → ℕ) → ℕ → Type 0
Refined n old g now t = (u v : ℕ) → u < n → v < n → nat_cmp (now u) (now v) ≡ ordering_then (nat_cmp (old u) (old v)) (nat_cmp (min (g u) t) (min (g v) t))
