-- The bytes of a state. This project's own.
use Rattle.std.specs.Prelude.{ℕ, ◌+◌, ◌*◌, ◌/◌, ◌%◌, ◌≤◌, Bool, List, [], ◌∷◌, ◌++◌, take, drop, length, if◌then◌else◌}
use Rattle.std.specs.List.{flat_map}
use Rattle.ep_logic.specs.declared.limits.TheConstants.{MOST_AGENTS, MOST_ATOMS}
use Rattle.ep_logic.specs.Numbers.{table}
use Rattle.ep_theory.specs.Kripke.{Kripke}
use Rattle.ep_kripke.specs.Interning.{row_of, successor_rows}

-- the number with these binary digits, the least first
abbrev pub number_of : List Bool → ℕ
number_of [] = 0
number_of (b ∷ bs) = (if b then 1 else 0) + 2 * number_of bs

-- byte k of a row has the values at the places 8 k to 8 k + 7
abbrev pub row_byte : List Bool → ℕ → ℕ
row_byte row k = number_of (take 8 (drop (8 * k) row))

-- how many bytes a row of n values has
abbrev pub row_size : ℕ → ℕ
row_size n = (n + 7) / 8

-- the bytes of a row
abbrev pub row_bytes : List Bool → List ℕ
row_bytes row = table (row_byte row) (row_size (length row))

-- the numbers of worlds, of agents and of atoms: two bytes, one and two, the high byte first
abbrev pub header : Kripke → List ℕ
header S = S.worlds / 256 ∷ S.worlds % 256 ∷ S.agents ∷ S.atoms / 256 ∷ S.atoms % 256 ∷ []

-- the numbers; for each world its truth row; for each agent, for each world, the row of its successors; the row of
-- the designated worlds
unfoldable pub bytes_of : Kripke → List ℕ
bytes_of S = header S
    ++ flat_map row_bytes S.truth
    ++ flat_map (λ pairs. flat_map row_bytes (successor_rows S.worlds pairs)) S.links
    ++ row_bytes (row_of S.worlds S.designated)

-- the state has no more than so many worlds, and is within the limits on agents and atoms
pub record IsWithin (most_worlds : ℕ) (S : Kripke) : Type 0 where
  pub worlds : S.worlds ≤ most_worlds
  pub agents : S.agents ≤ MOST_AGENTS
  pub atoms : S.atoms ≤ MOST_ATOMS
