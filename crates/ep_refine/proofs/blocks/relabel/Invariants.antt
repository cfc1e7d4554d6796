use Rattle.std.proofs.Common.{◌≡◌, ◌≢◌, ℕ, ◌<◌, ◌≤◌, length, slice_index}
use Rattle.ep_refine.proofs.blocks.relabel.Given as goal

abbrev pub invariant-loop-p : goal.invariant-loop-p
invariant-loop-p l = record {
  order : l.b.order.items ≡ l.fn.b.order.items;
  place : l.b.place.items ≡ l.fn.b.place.items;
  starts : l.b.starts.items ≡ l.fn.b.starts.items;
  ends : l.b.ends.items ≡ l.fn.b.ends.items;
  long : length l.b.ranks.items ≡ length l.fn.b.ranks.items;
  ranked : (q : ℕ) → l.from ≤ q → q < l.p → slice_index l.b.ranks.items (slice_index l.fn.b.order.items q) ≡ l.rank;
  others : (u : ℕ) → ((q : ℕ) → l.from ≤ q → q < l.p → slice_index l.fn.b.order.items q ≢ u) → slice_index l.b.ranks.items u ≡ slice_index l.fn.b.ranks.items u;
}
