use Rattle.std.proofs.Common.{◌≡◌, length}
use Rattle.ep_apart_tests.proofs.made.row.Given as goal

abbrev pub invariant-loop-p : goal.invariant-loop-p
invariant-loop-p l = length l.row ≡ l.width
