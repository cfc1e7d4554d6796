-- Rows of one length, one after another in words of 64 bits.
use Rattle.std.specs.Prelude.{◌≡◌, ℕ, ◌+◌, ◌*◌, ◌/◌, ◌^◌, ◌<◌, ◌≤◌, Bool, false, List, length, map}
use Rattle.std.specs.List.{range_with_len}
use Rattle.ep_logic.specs.declared.table.TheConstants.{MOST_ROWS}
use Rattle.ep_logic.specs.Packed.{bit_in}

-- what contracts see of a table: how long its rows are, and the rows
pub record Table : Type 0 where
  pub width : ℕ
  pub rows : List (List Bool)

-- the row whose words begin at word `from`
unfoldable pub table_row : List ℕ → ℕ → ℕ → List Bool
table_row words width from = map (λ i. bit_in words (from * 64 + i)) (range_with_len 0 width)

-- n rows of `per` words each
unfoldable pub table_rows : List ℕ → ℕ → ℕ → ℕ → List (List Bool)
table_rows words width per n = map (λ r. table_row words width (r * per)) (range_with_len 0 n)

pub record IsTable (words : List ℕ) (width per n : ℕ) : Type 0 where
  pub few : n ≤ MOST_ROWS
  pub short : width < 2 ^ 32
  pub words_of_row : per ≡ (width + 63) / 64
  pub long : length words ≡ n * per
  pub tails : (r i : ℕ) → r < n → width ≤ i → i < per * 64 → bit_in words (r * per * 64 + i) ≡ false
