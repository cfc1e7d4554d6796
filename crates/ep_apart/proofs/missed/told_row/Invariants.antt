use Rattle.std.proofs.Common.{◌≡◌, ℕ, ◌<◌, length, is_some}
use Rattle.ep_logic.specs.Rows.{value_at}
use Rattle.ep_apart.specs.Tables.{in_row}
use Rattle.ep_apart.proofs.missed.told_row.Given as goal

abbrev pub invariant-loop-y : goal.invariant-loop-y
invariant-loop-y l =
    record {
      long : length l.told ≡ l.worlds;
      same : (z : ℕ) → z < l.y → value_at l.told z ≡ is_some (in_row l.row z);
    }
