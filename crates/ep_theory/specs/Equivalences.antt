-- States and event models whose relations are equivalences, the models of S5: van Ditmarsch, van der Hoek and Kooi,
-- Dynamic Epistemic Logic, chapters 2 and 6.
use Rattle.std.specs.Prelude.{◌≡◌, ℕ, ◌<◌, Bool, ◌&&◌, List, length}
use Rattle.std.specs.List.{AllByRecursion, list_all}
use Rattle.ep_logic.specs.Numbers.{has_pair, table}
use Rattle.ep_theory.specs.Rising.{IsIn}
use Rattle.ep_theory.specs.Kripke.{Kripke, successors}
use Rattle.ep_theory.specs.Events.{EventModel}

-- among the numbers below n each is paired with itself, the converse of a pair is a pair, and two pairs that meet make a
-- third
pub record IsEquivalence (n : ℕ) (pairs : List (ℕ × ℕ)) : Type 0 where
  pub reflexive : (w : ℕ) → w < n → IsIn (w, w) pairs
  pub symmetric : (w v : ℕ) → IsIn (w, v) pairs → IsIn (v, w) pairs
  pub transitive : (w v u : ℕ) → IsIn (w, v) pairs → IsIn (v, u) pairs → IsIn (w, u) pairs

-- the same by trying every pair (law `equivalences_are_tried`)
abbrev pub is_equivalence : ℕ → List (ℕ × ℕ) → Bool
is_equivalence n pairs =
    list_all (λ w. has_pair pairs w w) (table (λ w. w) n)
    && list_all (λ p. has_pair pairs p.1 p.0) pairs
    && list_all (λ p. list_all (λ u. has_pair pairs p.0 u) (successors pairs p.1)) pairs

-- the pairs of every agent are an equivalence of the worlds
abbrev pub IsS5 : Kripke → Type 0
IsS5 S = AllByRecursion (IsEquivalence S.worlds) S.links

-- the pairs of every agent are an equivalence of the events
abbrev pub IsS5Action : EventModel → Type 0
IsS5Action A = AllByRecursion (IsEquivalence (length A.events)) A.links

-- Each number below n is among its successors, and each of these has the same: what an equivalence is, row by row (law
-- `equivalences_are_classes`).
abbrev pub AreClasses : ℕ → List (ℕ × ℕ) → Type 0
AreClasses n pairs = (w : ℕ) → w < n →
    IsIn w (successors pairs w) × AllByRecursion (λ v. successors pairs v ≡ successors pairs w) (successors pairs w)
