use Rattle.std.proofs.Common.{◌≡◌, ℕ, ◌<◌, false, slice_index}
use Rattle.ep_logic.specs.Rows.{value_at}
use Rattle.ep_refine.proofs.kept.keeps_designated.Given as goal

abbrev pub invariant-loop-w : goal.invariant-loop-w
invariant-loop-w l = (i : ℕ) → i < l.w-index → value_at l.keep (slice_index l.s.designated i) ≡ false
