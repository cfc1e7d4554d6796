use Rattle.std.proofs.Common.{ℕ, ◌<◌, ◌≤◌, ◌-◌, length}
use Rattle.ep_refine.specs.Blocks.{AreBlocks, rank_of, start_of, end_of}
use Rattle.ep_refine.specs.Touching.{is_listed}
use Rattle.ep_refine.specs.Groups.{Suits, Agrees, Turned, Refined}
use Rattle.ep_refine.proofs.split.split.Given as goal

abbrev pub invariant-loop-i : goal.invariant-loop-i
invariant-loop-i l = record {
  valid : AreBlocks (length l.fn.b.order.items) l.b;
  from : (u : ℕ) → u < length l.fn.b.order.items → start_of l.fn.b u ≤ start_of l.b u;
  to : (u : ℕ) → u < length l.fn.b.order.items → end_of l.b u ≤ end_of l.fn.b u;
  refined : (g : ℕ → ℕ) → Suits (length l.fn.b.order.items) (rank_of l.fn.b) g (is_listed l.left) l.worlds → Agrees g l.groups l.worlds →
      (t : ℕ) × Turned g l.worlds t l.i × Refined (length l.fn.b.order.items) (rank_of l.fn.b) g (rank_of l.b) t;
}

abbrev pub decreases-loop-i : goal.decreases-loop-i
decreases-loop-i l = length l.worlds - l.i
