-- A relation kept as rows of successors, and its pairs.
use Rattle.std.specs.Prelude.{ℕ, zero, suc, List, [], ◌++◌, length, map, slice_index_or}

-- the pairs of each of the first m places with each number of its row
abbrev pub row_pairs : List (List ℕ) → ℕ → List (ℕ × ℕ)
row_pairs rows zero = []
row_pairs rows (suc m) = row_pairs rows m ++ map (λ v. (m, v)) (slice_index_or rows m [])

-- the pairs of each place with each number of its row
abbrev pub all_pairs : List (List ℕ) → List (ℕ × ℕ)
all_pairs rows = row_pairs rows (length rows)
