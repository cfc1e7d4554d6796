use Rattle.std.proofs.Common.{◌≡◌, ℕ, ◌<◌, ◌≤◌, true, slice_index}
use Rattle.ep_refine.specs.Touching.{is_listed}
use Rattle.ep_refine.proofs.rounds.left_in.Given as goal

abbrev pub invariant-loop-p : goal.invariant-loop-p
invariant-loop-p l = (q : ℕ) → l.from ≤ q → q < l.p → is_listed l.left (slice_index l.b.order.items q) ≡ true
