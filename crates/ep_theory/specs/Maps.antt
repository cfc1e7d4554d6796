-- Maps of worlds to worlds that are bisimulations. This project's own.
use Rattle.std.specs.Prelude.{◌≡◌, ℕ, Bool, false, ◌==◌, List, length, Option, Some, None, slice_index_or, IsTrue}
use Rattle.ep_theory.specs.Rising.{IsIn}
use Rattle.ep_theory.specs.Kripke.{Kripke}
use Rattle.ep_theory.specs.Bisimulation.{IsBisimulation}

abbrev pub is_number : Option ℕ → ℕ → Bool
is_number None v = false
is_number (Some x) v = x == v

-- whether the map gives v at w
abbrev pub relates : List (Option ℕ) → ℕ → ℕ → Bool
relates map w v = is_number (slice_index_or map w None) v

-- the map has a place for each world of S, where a number stands for a world of R; it is a bisimulation, and relates
-- each designated world of either to a designated world of the other
pub record Maps (S R : Kripke) (map : List (Option ℕ)) : Type 0 where
  pub long : length map ≡ S.worlds
  pub bisimulation : IsBisimulation (relates map) S R
  pub forth : (w : ℕ) → IsIn w S.designated → (v : ℕ) × IsIn v R.designated × IsTrue (relates map w v)
  pub back : (v : ℕ) → IsIn v R.designated → (w : ℕ) × IsIn w S.designated × IsTrue (relates map w v)
