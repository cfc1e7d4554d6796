use Rattle.std.proofs.Common.{◌≡◌, ℕ, ◌<◌, true, length, slice_index}
use Rattle.ep_logic.specs.Rows.{value_at}
use Rattle.ep_apart.specs.Missed.{bit}
use Rattle.ep_apart.proofs.missed.join_rows.Given as goal

abbrev pub invariant-loop-x : goal.invariant-loop-x
invariant-loop-x l =
    record {
      long : length l.row ≡ length l.initial.row;
      has : (i d : ℕ) → i < l.x-index → bit l.rows (slice_index l.chosen i) d ≡ true → value_at l.row d ≡ true;
    }
