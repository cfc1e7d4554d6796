-- Worlds that are listed, each once, and marked.
use Rattle.std.specs.Prelude.{◌≡◌, ℕ, ◌<◌, ◌⊎◌, Bool, true, not, List, length, slice_index}
use Rattle.ep_logic.specs.Rows.{value_at}
use Rattle.ep_theory.specs.Rising.{IsIn}
use Rattle.ep_theory.specs.Kripke.{Kripke, links_of}
use Rattle.ep_refine.specs.Groups.{IsWithin, AreDistinct}

-- a row of marks is true at the worlds that are left, and false at those that are listed
abbrev pub is_listed : List Bool → ℕ → Bool
is_listed left w = not (value_at left w)

-- the worlds of the list are those that the row marks as listed, each once
pub record Listed (n : ℕ) (left : List Bool) (ws : List ℕ) : Type 0 where
  pub long : length left ≡ n
  pub within : IsWithin n ws
  pub distinct : AreDistinct ws
  pub marked : (u : ℕ) → u < n → is_listed left u ≡ true → IsIn u ws
  pub listed : (k : ℕ) → k < length ws → is_listed left (slice_index ws k) ≡ true

-- the worlds that meet P are listed besides
pub record Adds (P : ℕ → Type 0) (before after : List ℕ) : Type 0 where
  pub keeps : (u : ℕ) → IsIn u before → IsIn u after
  pub adds : (u : ℕ) → P u → IsIn u after
  pub only : (u : ℕ) → IsIn u after → IsIn u before ⊎ P u

-- the number is in the list of one of these
abbrev pub InSome : (ℕ → List ℕ) → List ℕ → ℕ → Type 0
InSome f xs u = (v : ℕ) × IsIn v xs × IsIn u (f v)

-- some agent links the world to one of these
abbrev pub LinksToSome : Kripke → List ℕ → ℕ → Type 0
LinksToSome S moved w = (a v : ℕ) × IsIn v moved × IsIn (w, v) (links_of S a)
