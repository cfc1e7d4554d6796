use Rattle.std.proofs.Common.{◌≡◌, ◌≤◌, ◌*◌, sum_by, length, ℕ}
use Rattle.ep_logic.specs.Numbers.{table}
use Rattle.ep_update.specs.Places.{place_row}
use Rattle.ep_update.proofs.rows.count_of.Given as goal

abbrev pub invariant-loop-i : goal.invariant-loop-i
invariant-loop-i l = record {
  lengths : l.lengths.items ≡ table (λ i. length (place_row l.product.state.now l.product.action.now l.product.agent i)) l.i;
  count : l.total ≡ sum_by (length {A = ℕ}) (table (place_row l.product.state.now l.product.action.now l.product.agent) l.i);
  bound : l.total ≤ 65536 * l.i;
}
