use Rattle.std.proofs.Common.{◌≡◌, length}
use Rattle.ep_state_tests.proofs.values.row_of.Given as goal

abbrev pub invariant-loop-i : goal.invariant-loop-i
invariant-loop-i l = length l.row ≡ length l.values
