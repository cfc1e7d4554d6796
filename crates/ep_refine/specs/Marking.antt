-- Worlds that are marked, and marked worlds that are still open.
use Rattle.std.specs.Prelude.{◌≡◌, ℕ, suc, ◌+◌, ◌⊎◌, Bool, true, false, List, [], ◌∷◌, length, IsTrue}
use Rattle.ep_logic.specs.Rows.{value_at}
use Rattle.ep_theory.specs.Rising.{IsIn}
use Rattle.ep_theory.specs.Kripke.{Kripke, links_of}

-- how many worlds are not marked
abbrev pub unmarked : List Bool → ℕ
unmarked [] = 0
unmarked (true ∷ row) = unmarked row
unmarked (false ∷ row) = suc (unmarked row)

-- The worlds that meet P are marked besides, and those that were not before are open besides; a world that becomes
-- marked becomes open once.
pub record Marks (P : ℕ → Type 0) (before after : List Bool) (open_before open_after : List ℕ) : Type 0 where
  pub long : length after ≡ length before
  pub keeps : (w : ℕ) → IsTrue (value_at before w) → IsTrue (value_at after w)
  pub adds : (w : ℕ) → P w → IsTrue (value_at after w)
  pub marked : (w : ℕ) → IsTrue (value_at after w) → IsTrue (value_at before w) ⊎ (P w × IsIn w open_after)
  pub keeps_open : (w : ℕ) → IsIn w open_before → IsIn w open_after
  pub opened : (w : ℕ) → IsIn w open_after → IsIn w open_before ⊎ P w
  pub count : unmarked after + length open_after ≡ unmarked before + length open_before

-- some agent links w to the world
abbrev pub IsTarget : Kripke → ℕ → ℕ → Type 0
IsTarget S w v = (a : ℕ) × IsIn (w, v) (links_of S a)
