use Rattle.std.proofs.Common.{◌≡◌, length}
use Rattle.ep_state_tests.proofs.formulas.leaves.Given as goal

abbrev pub invariant-loop-leaf : goal.invariant-loop-leaf
invariant-loop-leaf l = length l.leaves ≡ l._leaf
