-- Equivalences, told by rows of successors.
use Rattle.std.specs.Prelude.{◌≡◌, ℕ, List, [], slice_index_or}
use Rattle.ep_theory.specs.Rising.{IsIn}

-- each number of the row has, by these names, the same row
abbrev pub IsShared : List (List ℕ) → List ℕ → ℕ → Type 0
IsShared rows names at = (v : ℕ) → IsIn v (slice_index_or rows at []) → slice_index_or rows (slice_index_or names v 0) [] ≡ slice_index_or rows at []

-- the world is one of its successors, and each of them has the same successors
pub record IsClass (rows : List (List ℕ)) (w : ℕ) : Type 0 where
  pub itself : IsIn w (slice_index_or rows w [])
  pub same : (v : ℕ) → IsIn v (slice_index_or rows w []) → slice_index_or rows v [] ≡ slice_index_or rows w []
