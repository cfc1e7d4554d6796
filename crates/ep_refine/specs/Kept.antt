-- The part of a state that is kept.
use Rattle.std.specs.Prelude.{ℕ, Bool, List, length, filter, IsTrue}
use Rattle.std.specs.List.{range_with_len}
use Rattle.ep_theory.specs.Rising.{IsIn}
use Rattle.ep_theory.specs.Kripke.{Kripke}
use Rattle.ep_theory.specs.Image.{IsImage}
use Rattle.ep_logic.specs.Rows.{value_at}

-- some designated world is kept
abbrev pub KeepsDesignated : Kripke → List Bool → Type 0
KeepsDesignated S keep = (w : ℕ) × IsIn w S.designated × IsTrue (value_at keep w)

-- the kept worlds below a number, in their order
abbrev pub kept_below : List Bool → ℕ → List ℕ
kept_below keep n = filter (value_at keep) (range_with_len 0 n)

-- how many kept worlds come before a world
abbrev pub kept_before : List Bool → ℕ → ℕ
kept_before keep w = length (kept_below keep w)

-- Q has the kept worlds of S in their order, with the links among them
abbrev pub IsRestriction : Kripke → List Bool → Kripke → Type 0
IsRestriction S keep Q = IsImage S (value_at keep) (kept_before keep) Q
