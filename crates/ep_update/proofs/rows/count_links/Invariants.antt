use Rattle.std.proofs.Common.{◌≡◌, ◌≤◌, ◌*◌, sum_by, length, ℕ}
use Rattle.ep_logic.specs.Numbers.{table}
use Rattle.ep_update.specs.Places.{place_rows}
use Rattle.ep_update.proofs.rows.count_links.Given as goal

abbrev pub invariant-loop-agent : goal.invariant-loop-agent
invariant-loop-agent l = record {
  count : l.total ≡ sum_by (sum_by (length {A = ℕ})) (table (place_rows l.s l.a) l.agent);
  bound : l.total ≤ 4294967296 * l.agent;
}
