use Rattle.std.proofs.Common.{ℕ, ◌<◌, ◌≤◌, ◌-◌, slice_index}
use Rattle.ep_refine.specs.Rounds.{size_of}
use Rattle.ep_refine.proofs.leaving.largest.Given as goal

abbrev pub invariant-loop-p : goal.invariant-loop-p
invariant-loop-p l = record {
  from : l.from ≤ l.best;
  to : l.best < l.to;
  here : l.from ≤ l.p;
  inside : l.p ≤ l.to;
  largest : (q : ℕ) → l.from ≤ q → q < l.p → size_of l.b (slice_index l.b.order.items q) ≤ size_of l.b (slice_index l.b.order.items l.best);
}

abbrev pub decreases-loop-p : goal.decreases-loop-p
decreases-loop-p l = l.to - l.p
