-- Worlds that are kept, under new numbers, with one of them chosen for each number.
use Rattle.std.specs.Prelude.{◌≡◌, ℕ, ◌<◌, Bool, List, length, map, filter, slice_index, IsTrue}
use Rattle.std.specs.Ordering.{nat_cmp}
use Rattle.std.specs.List.{AllByRecursion}
use Rattle.ep_theory.specs.Rising.{IsIn, rising}
use Rattle.ep_theory.specs.Kripke.{Kripke, truth_of, links_of}

-- the numbers of the kept worlds among these, in rising order, each once
abbrev pub kept_numbers : (ℕ → Bool) → (ℕ → ℕ) → List ℕ → List ℕ
kept_numbers keep number worlds = rising nat_cmp (map number (filter keep worlds))

-- The chosen worlds are kept, and the numbers of the kept worlds are the places of the chosen ones. A kept world
-- has the truth list of the chosen world of its number, which answers its links to kept worlds up to numbers.
pub record IsChoice (S : Kripke) (keep : ℕ → Bool) (number : ℕ → ℕ) (chosen : List ℕ) : Type 0 where
  pub each : AllByRecursion (λ w. (w < S.worlds) × IsTrue (keep w)) chosen
  pub below : (w : ℕ) → w < S.worlds → IsTrue (keep w) → number w < length chosen
  pub onto : (c : ℕ) → c < length chosen → number (slice_index chosen c) ≡ c
  pub truth : (w : ℕ) → w < S.worlds → IsTrue (keep w) → truth_of S w ≡ truth_of S (slice_index chosen (number w))
  pub answers : (a w u : ℕ) → IsIn (w, u) (links_of S a) → IsTrue (keep w) → IsTrue (keep u) →
      (x : ℕ) × IsIn (slice_index chosen (number w), x) (links_of S a) × IsTrue (keep x) × (number x ≡ number u)
  pub designated : (w : ℕ) × IsIn w S.designated × IsTrue (keep w)
