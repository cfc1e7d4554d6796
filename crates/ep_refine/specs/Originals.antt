-- Chosen worlds with the same successors.
use Rattle.std.specs.Prelude.{◌≡◌, ℕ, ◌<◌, ◌≤◌, List, length, slice_index}
use Rattle.ep_theory.specs.Kripke.{Kripke, links_of, successors}

-- for each chosen world a place, no later, of one with the same successors
pub record AreOriginals (S : Kripke) (a : ℕ) (chosen originals : List ℕ) : Type 0 where
  pub long : length originals ≡ length chosen
  pub no_later : (i : ℕ) → i < length chosen → slice_index originals i ≤ i
  pub equal : (i : ℕ) → i < length chosen → successors (links_of S a) (slice_index chosen (slice_index originals i)) ≡ successors (links_of S a) (slice_index chosen i)
