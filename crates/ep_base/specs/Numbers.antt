-- Lists of numbers.
use Rattle.std.specs.Prelude.{ℕ, max, List, [], ◌∷◌}

-- the largest number of a list, or 0
abbrev pub largest : List ℕ → ℕ
largest [] = 0
largest (n ∷ ns) = max n (largest ns)
