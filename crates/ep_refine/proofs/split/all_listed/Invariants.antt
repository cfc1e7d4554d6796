use Rattle.std.proofs.Common.{◌≡◌, ℕ, ◌<◌, true, slice_index}
use Rattle.ep_refine.specs.Touching.{is_listed}
use Rattle.ep_refine.proofs.split.all_listed.Given as goal

abbrev pub invariant-loop-w : goal.invariant-loop-w
invariant-loop-w l = (k : ℕ) → k < l.w-index → is_listed l.left (slice_index l.worlds k) ≡ true
