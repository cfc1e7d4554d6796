use Rattle.std.proofs.Common.{◌≡◌}
use Rattle.ep_logic.specs.Numbers.{numbers_where}
use Rattle.ep_truth.specs.Common.{is_out}
use Rattle.ep_truth.proofs.common.outside.Given as goal

abbrev pub invariant-loop-w : goal.invariant-loop-w
invariant-loop-w l = l.places.items ≡ numbers_where (is_out l.row) l.w
