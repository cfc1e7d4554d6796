-- Rows of a set alone, or rows that it shares with a table.
use Rattle.std.specs.Prelude.{ℕ, List, map}
use Rattle.ep_kripke.specs.declared.row_set.Held.{Held}
use Rattle.ep_kripke.specs.declared.row_set.Held.TheVariants.{Own, Shared}
use Rattle.ep_kripke.specs.Relations.{members}
use Rattle.ep_kripke.specs.Kept.{kept_rows}

-- the rows as lists of numbers
abbrev pub held_rows : Held → List (List ℕ)
held_rows (Own kept) = kept_rows kept
held_rows (Shared rows) = map members rows
