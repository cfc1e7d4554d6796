use Rattle.std.proofs.Common.{◌≡◌, ℕ, ◌<◌, [], length, slice_index, slice_index_or}
use Rattle.ep_theory.specs.Kripke.{links_of}
use Rattle.ep_refine.specs.Columns.{OrdersRanks}
use Rattle.ep_refine.proofs.columns.columns.Given as goal

abbrev pub invariant-loop-a : goal.invariant-loop-a
invariant-loop-a l = record {
  one_each : length l.columns ≡ l.a;
  each : (b : ℕ) → b < length l.columns → OrdersRanks (links_of l.s b) (slice_index l.ranks) l.worlds (slice_index_or l.columns b []);
}
