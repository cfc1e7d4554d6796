use Rattle.std.proofs.Common.{◌≡◌}
use Rattle.ep_logic.specs.Numbers.{table}
use Rattle.ep_dynamic.specs.Sizes.{value_size}
use Rattle.ep_dynamic.proofs.sizes.value_row.Given as goal

abbrev pub invariant-loop-n : goal.invariant-loop-n
invariant-loop-n l = l.row ≡ table (value_size l.a l.p) l.n
