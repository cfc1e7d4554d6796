-- The classes of the worlds of a state, where those of the reached worlds are known in order.
use Rattle.std.specs.Prelude.{ℕ, Bool, List, length, Option, Some, None, slice_index, if◌then◌else◌}
use Rattle.ep_logic.specs.Numbers.{table}
use Rattle.ep_logic.specs.Rows.{value_at}
use Rattle.ep_refine.specs.Kept.{kept_before}

-- the class of a reached world
abbrev pub class_at : List Bool → List ℕ → ℕ → Option ℕ
class_at reached classes w = if value_at reached w then Some (slice_index classes (kept_before reached w)) else None

-- for each world its class
abbrev pub class_map : List Bool → List ℕ → List (Option ℕ)
class_map reached classes = table (class_at reached classes) (length reached)
