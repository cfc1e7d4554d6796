-- The guide that was asked, and what became of the others.
use Rattle.std.specs.Prelude.{◌≡◌, ℕ, ◌≤◌, List, Some, length, slice_get}
use Rattle.ep_base.specs.Counts.{Rose}

-- the guide at the place was asked, where `count` says how often
pub record WasAskedAt {G : Type 0} (count : G → ℕ) (old new : List G) (place : ℕ) : Type 0 where
  pub before : G
  pub after : G
  pub was : slice_get old place ≡ Some before
  pub is : slice_get new place ≡ Some after
  pub rose : Rose (count before) (count after)

-- the guides keep their number and order, those at places that may not be asked are as before, and no count fell
pub record KeepsBut {G : Type 0} (count : G → ℕ) (may_ask : ℕ → Type 0) (old new : List G) : Type 0 where
  pub number : length new ≡ length old
  pub others : (place : ℕ) → (may_ask place → ⊥) → slice_get new place ≡ slice_get old place
  pub grows : (place : ℕ) (before after : G) → slice_get old place ≡ Some before → slice_get new place ≡ Some after → count before ≤ count after
